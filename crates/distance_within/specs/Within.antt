-- Normalised values made block by block, as far as their envelope bound stays within a limit. The first so many are made; a block more adds its part of the bound.
use Rattle.std.specs.Prelude.{ℕ, ◌≤◌, ℤ, List}
use Rattle.meaning_numbers.specs.Sum.{Σℕ}
use Rattle.meaning_curves.specs.{Curve.at, Normal.normalised}
use Rattle.meaning_filter.proofs.Bound.{apart}
use Rattle.numbers.specs.Within.{Within}
use Rattle.distance_normal.specs.Stretch.{Normalised}

-- the envelope bound of the normalised values, or some number above the limit; at or below it all values are made
pub record NormalWithin (s : ℕ → ℤ) (m : ℕ) (low high : List ℤ) (limit r : ℕ) (out : List ℤ) : Type 0 where
  pub bound : Within (Σℕ m (apart (normalised s m) (at low) (at high))) limit r
  pub made : r ≤ limit → Normalised s m out
