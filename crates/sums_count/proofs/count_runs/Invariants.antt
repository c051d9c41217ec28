-- `count_runs`. The invariant: the runs of the windows passed are counted, and the next window begins a run (`counted-run`, `fresh-next`).
use Rattle.meaning_numbers.proofs.Prelude.{◌≡◌, ◌-◌, ◌≤◌, length}
use Rattle.sums_slide.specs.{Levels.level, Levels.row_of, Table.table}
use Rattle.sums_count.specs.Tally.{Counted}
use Rattle.sums_count.proofs.Tally.{Fresh}
use Rattle.sums_count.proofs.count_runs.Given as goal

abbrev pub invariant-loop-at : goal.invariant-loop-at
invariant-loop-at l = (l.at.offset ≤ l.windows) × (l.at.level ≡ level l.s l.w l.e l.at.offset) × Fresh (row_of (level l.s l.w l.e) l.d) l.windows l.at.offset × Counted (row_of (level l.s l.w l.e) l.d) l.at.offset (table l.s l.w l.e l.d) l.counts × (length l.counts ≡ length l.initial.counts)

abbrev pub decreases-loop-at : goal.decreases-loop-at
decreases-loop-at l = l.windows - l.at.offset
