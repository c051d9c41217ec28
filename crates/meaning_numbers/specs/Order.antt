-- The lesser and the greater of two whole numbers, and a number between two.
use Rattle.std.specs.Prelude.{ℤ, Bool, cond, ◌&&◌}
use Rattle.std.specs.Int.Signed.{le_z, lt_z}

unfoldable pub minℤ : ℤ → ℤ → ℤ
minℤ x y = cond (lt_z x y) x y

unfoldable pub maxℤ : ℤ → ℤ → ℤ
maxℤ x y = cond (lt_z x y) y x

-- z lies from low to high, both included
unfoldable pub within : ℤ → ℤ → ℤ → Bool
within low high z = le_z low z && le_z z high
