-- `write_runs`. The invariant: the runs of the offsets passed stand at the front, and so many were found; a block takes it on (`Took`).
use Rattle.meaning_numbers.specs.Sum.{count}
use Rattle.meaning_numbers.proofs.Prelude.{◌≡◌, ◌-◌, ◌≤◌}
use Rattle.meaning_rows.proofs.{Columns.Filling}
use Rattle.candidate_counts.specs.{Handed.stood}
use Rattle.candidate_counts.proofs.write_runs.Given as goal

abbrev pub invariant-loop-j : goal.invariant-loop-j
invariant-loop-j l = (l.j ≤ l.offsets) × (l.out.candidates ≡ count (stood l.scratch l.p) l.j) × Filling (stood l.scratch l.p) l.initial.left l.initial.right l.j l.out.runs l.out.going l.left l.right

abbrev pub decreases-loop-j : goal.decreases-loop-j
decreases-loop-j l = l.offsets - l.j
