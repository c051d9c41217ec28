-- The sums of a stretch as code keeps them, over values raised by 10,000: the sum of m raised values and the sum of their squares. The spread and the centred values are those of the values themselves.
-- They move by one place.
use Rattle.std.specs.Prelude.{ℕ, ℤ, List, ◌≡◌}
use Rattle.meaning_numbers.specs.Sum.{Σℕ, square}
use Rattle.meaning_curves.specs.Curve.{stretch}
use Rattle.numbers.specs.Raised.{raised}

pub record AreSums (s : List ℤ) (from m p w : ℕ) : Type 0 where
  pub values : p ≡ Σℕ m (λ k. raised (stretch s from k))
  pub squares : w ≡ Σℕ m (λ k. square (raised (stretch s from k)))
