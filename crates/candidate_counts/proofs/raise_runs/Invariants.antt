-- `raise_runs`. The invariant: raising by the runs that are left gives what is to be had (`going_next`).
use Rattle.rows_judge.proofs.Scan.{part as part_of}
use Rattle.candidate_counts.proofs as own
use own.Raise.{Going}
use Rattle.candidate_counts.proofs.raise_runs.Given as goal

abbrev pub invariant-loop-i : goal.invariant-loop-i
invariant-loop-i l = Going l.part l.offsets l.shift (part_of l.left l.right l.from l.to) (part_of l.left l.right l.i l.to) l.initial.scratch l.scratch
