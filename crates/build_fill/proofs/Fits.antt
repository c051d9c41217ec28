-- The count of windows is reckoned without a wrap.
use Rattle.meaning_numbers.proofs.Prelude.{ℕ, ◌+◌, ◌<◌, ◌≤◌, ◌^◌, arith, List, ℤ, length}
use Rattle.sums_slide.specs.Levels.{Lent}

module _ {s : List ℤ} {w e : ℕ} (h : Lent s w e) where
  pub plus-fits : length s + 1 < 2 ^ 64
  plus-fits = omega arith

  pub minus-fits : w ≤ length s + 1
  minus-fits = omega arith
