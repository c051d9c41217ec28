-- `clear`. The invariant: the entries passed are cleared.
use Rattle.clear.proofs as own
use own.Cleared.{Clearing}
use Rattle.clear.proofs.clear.Given as goal

abbrev pub invariant-loop-i : goal.invariant-loop-i
invariant-loop-i g l = Clearing l.zero l.from l.i l.initial.buffer l.buffer
