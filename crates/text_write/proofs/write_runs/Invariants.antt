-- `write_runs`. The invariant: the first i runs of the part stand in the buffer (`Runs`).
use Rattle.text_write.proofs.Write.{Runs}
use Rattle.text_write.proofs.write_runs.Given as goal

abbrev pub invariant-loop-i : goal.invariant-loop-i
invariant-loop-i l = Runs l.initial.buf l.initial.to l.first l.runs l.left l.right l.n l.buf l.to l.i
