-- Values known to be in their limits up to a place.
use Rattle.std.specs.Prelude.{ℕ, ◌<◌, T, ℤ, List}
use Rattle.meaning_curves.specs.{Curve.at, Limits.value_in}

-- every value before place n is in its limits
pub record InTo (s : List ℤ) (n : ℕ) : Type 0 where
  pub inside : (k : ℕ) → k < n → T (value_in (at s k))
