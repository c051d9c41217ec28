-- `judge`: what is left to judge gives the outcome.
use Rattle.rows_judge.proofs.Outcome.{Judging}
use Rattle.rows_judge.proofs.judge.Given as goal

abbrev pub invariant-loop-k : goal.invariant-loop-k
invariant-loop-k l = Judging l.head l.rows l.left l.right l.s l.k
