-- `level_ends`. The invariant: both ends of the windows passed (`bounds-more`).
use Rattle.meaning_numbers.proofs.Prelude.{◌≡◌, ◌+◌, ◌≤◌}
use Rattle.sums_slide.specs.Levels.{level, Bounds}
use Rattle.sums_slide.proofs.level_ends.Given as goal

abbrev pub invariant-loop-j : goal.invariant-loop-j
invariant-loop-j l = (l.n ≡ level l.s l.w l.e l.j) × Bounds (level l.s l.w l.e) (l.j + 1) l.least l.greatest × (l.greatest ≤ 6120000)
