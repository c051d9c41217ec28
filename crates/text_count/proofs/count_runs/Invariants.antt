-- `count_runs`. The invariant: the first i runs of the part are counted (`Runs`).
use Rattle.text_count.proofs as own
use own.Count.{Runs}
use Rattle.text_count.proofs.count_runs.Given as goal

abbrev pub invariant-loop-i : goal.invariant-loop-i
invariant-loop-i l = Runs l.limit l.at l.first l.runs l.left l.right l.n l.to l.i
