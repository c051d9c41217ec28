-- A number between two others, as facts; the test `within` passes exactly where they hold (`within-yes`, `yes-within`).
use lib.Dec.{T}
use lib.IntN.{ℤ}
use lib.Signed.{◌≤ℤ◌, le_z, le_z_yes}
use Rattle.meaning_numbers.specs.Order.{within}
use Rattle.meaning_numbers.proofs.Tests.{two-tests, both-tests}

-- z lies from x to y, both included
pub record Between (x z y : ℤ) : Type 0 where
  pub low : x ≤ℤ z
  pub high : z ≤ℤ y

pub within-yes : (x y z : ℤ) → T (within x y z) → Between x z y
unfolding within
within-yes x y z t = let h = two-tests (le_z x z) (le_z z y) t in record { low = le_z_yes h.0; high = le_z_yes h.1 }

pub yes-within : {x z y : ℤ} → Between x z y → T (within x y z)
unfolding within
yes-within {x} {z} {y} b = both-tests (le_z x z) (le_z z y) b.low.le b.high.le
