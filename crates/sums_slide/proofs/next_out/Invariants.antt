-- `next_out`. The invariant: the window at hand is window j, and every window passed is in the range.
use Rattle.meaning_numbers.proofs.Prelude.{◌≡◌, true, ℕ, ◌≤◌, ◌<◌}
use Rattle.sums_slide.specs.Levels.{level, within, windows_of}
use Rattle.sums_slide.proofs.next_out.Given as goal

abbrev pub invariant-loop-j : goal.invariant-loop-j
invariant-loop-j l = (l.at.offset ≡ l.j) × (l.j ≤ windows_of l.s l.w) × (l.at.level ≡ level l.s l.w l.e l.j) × ((k : ℕ) → k < l.j → l.fn.from.offset ≤ k → within l.lo l.hi (level l.s l.w l.e k) ≡ true)
