-- The tests of a normalised query that ask for no value: flat, scale and shift, over the numbers that code has (`Alike`). They are those of the meaning, so where they fail the stretch does not match, and where they pass the distance decides.
use Rattle.std.specs.Prelude.{ℕ, ◌*◌, ◌<◌, ◌≤◌, pos, ◌-ℤ◌, nat_abs, Bool, true, false, ◌≡◌}

-- of spreads A and B and raised sums p and q, of m values each, within scale a and shift h
pub record Alike (A p B q m a h : ℕ) : Type 0 where
  pub not-flat : 0 < A
  pub up : 100 * A ≤ a * a * B
  pub down : 100 * B ≤ a * a * A
  pub shift : nat_abs (pos p -ℤ pos q) ≤ m * h

-- a test and what it tests
pub record Says (r : Bool) (P : Type 0) : Type 0 where
  pub yes : r ≡ true → P
  pub no : r ≡ false → P → ⊥
