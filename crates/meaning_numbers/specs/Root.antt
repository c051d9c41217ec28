-- The whole square root, rounded down. `IsRoot` says what it is; `root` computes it by pairs of bits (law: `root_is`).
use Rattle.std.specs.Prelude.{ℕ, zero, suc, ◌+◌, ◌*◌, ◌/◌, ◌<◌, ◌≤◌, ltb, Bool, true, false}

-- r is the whole square root of y
pub record IsRoot (y r : ℕ) : Type 0 where
  pub low : r * r ≤ y
  pub high : y < (r + 1) * (r + 1)

-- r where the square of r + 1 is above, else r + 1
unfoldable pub next_bit : Bool → ℕ → ℕ
next_bit true r = r
next_bit false r = r + 1

-- twice the root of a quarter, or one more; n bounds the quarterings
unfoldable pub root_within : ℕ → ℕ → ℕ
root_within zero y = 0
root_within (suc n) zero = 0
root_within (suc n) (suc y) = let r = 2 * root_within n (suc y / 4) in next_bit (ltb (suc y) ((r + 1) * (r + 1))) r

-- 01, Candidates: root(y) is the whole square root, rounded down
unfoldable pub root : ℕ → ℕ
root y = root_within y y
