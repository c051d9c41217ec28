-- `list_rows`. The invariant: the row numbers below the next chunk's first are listed.
use Rattle.meaning_numbers.proofs.Prelude.{◌≡◌, ◌+◌, ◌-◌, length}
use Rattle.sums_slide.specs.{Levels.level, Levels.row_of, Levels.windows_of, Marks.met, Picked.picked, Picked.Appended}
use Rattle.sums_slide.proofs.list_rows.Given as goal

abbrev pub invariant-loop-base : goal.invariant-loop-base
invariant-loop-base l = Appended (picked (met (row_of (level l.s l.w l.e) l.d) (windows_of l.s l.w)) 0 l.base) 0 l.k l.initial.out l.out × (length l.flags ≡ length l.initial.flags)

abbrev pub decreases-loop-base : goal.decreases-loop-base
decreases-loop-base l = l.last + 1 - l.base
