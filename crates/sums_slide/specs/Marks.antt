-- Flags for the row numbers that windows have, over raised row numbers.
use Rattle.std.specs.Prelude.{ℕ, zero, suc, ◌+◌, ◌-◌, ◌<◌, leb, eqb, get_or, length, set, Bool, false, not, cond, ◌||◌, List, ◌≡◌}
use Rattle.meaning_numbers.specs.Sum.{bit}

-- some window below n has row number k
unfoldable pub met : (ℕ → ℕ) → ℕ → ℕ → Bool
met row zero k = false
met row (suc n) k = eqb (row n) k || met row n k

-- the flag of k, where the flags from base on have one
unfoldable pub flagged : List ℕ → ℕ → ℕ → List ℕ
flagged l base k = cond (leb base k) (set l (k - base) 1) l

-- flags for the numbers from base on: 1 where a window below n has the number, else 0
pub record Flags (row : ℕ → ℕ) (n base : ℕ) (flags : List ℕ) : Type 0 where
  pub flag : (x : ℕ) → x < length flags → get_or flags x 0 ≡ bit (met row n (base + x))

-- the flag of number v is set
unfoldable pub lit : List ℕ → ℕ → ℕ → Bool
lit flags base v = not (eqb (get_or flags (v - base) 0) 0)
