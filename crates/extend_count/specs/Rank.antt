-- The rank of a number among ascending ends: how many are at most it. It is the place of the first end above it.
use Rattle.std.specs.Prelude.{ℕ, ◌<◌, ◌≤◌, leb, get_or, List}
use Rattle.meaning_numbers.specs.Sum.{count}

unfoldable pub rank : List ℕ → ℕ → ℕ → ℕ
rank ups n x = count (λ i. leb (get_or ups i 0) x) n

-- the first n ends ascend
pub record Climbing (ups : List ℕ) (n : ℕ) : Type 0 where
  pub up : (i k : ℕ) → i ≤ k → k < n → get_or ups i 0 ≤ get_or ups k 0
