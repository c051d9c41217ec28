-- `take_each`. The invariant: the offsets passed are taken in (`taking-next`).
use Rattle.candidate_counts.specs.Handed.{stood}
use Rattle.candidate_counts.proofs as own
use own.Take.{Taking}
use Rattle.candidate_counts.proofs.take_each.Given as goal

abbrev pub invariant-loop-j : goal.invariant-loop-j
invariant-loop-j l = Taking (stood l.scratch l.p) l.from l.j l.initial.now l.now l.initial.left l.initial.right l.left l.right
