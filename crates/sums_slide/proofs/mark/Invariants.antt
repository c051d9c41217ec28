-- `mark`. The invariant: the flags tell the row numbers of the windows passed (`flags-run`).
use Rattle.meaning_numbers.proofs.Prelude.{◌≡◌, ◌-◌, ◌≤◌, length}
use Rattle.sums_slide.specs.{Levels.level, Levels.row_of, Marks.Flags}
use Rattle.sums_slide.proofs.mark.Given as goal

abbrev pub invariant-loop-at : goal.invariant-loop-at
invariant-loop-at l = (l.at.offset ≤ l.windows) × (l.at.level ≡ level l.s l.w l.e l.at.offset) × Flags (row_of (level l.s l.w l.e) l.d) l.at.offset l.base l.flags × (length l.flags ≡ length l.initial.flags)

abbrev pub decreases-loop-at : goal.decreases-loop-at
decreases-loop-at l = l.windows - l.at.offset
