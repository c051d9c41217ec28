-- Whole numbers of a size.
use Rattle.std.specs.Prelude.{ℕ, ◌≤◌, ℤ}
use Rattle.meaning_numbers.proofs.Rep.{up, dn}

-- z lies from -n to n
pub record Small (n : ℕ) (z : ℤ) : Type 0 where
  pub above : up z ≤ n
  pub below : dn z ≤ n
