-- `audit`: what is filed wrongly first is among what is left to audit.
use Rattle.entry_audit.proofs.Going.{Going}
use Rattle.entry_audit.proofs.audit.Given as goal

abbrev pub invariant-loop-n : goal.invariant-loop-n
invariant-loop-n l = Going l.series l.head l.rows l.left l.right l.n
