-- Quotients of whole numbers by a natural number. By 0 they mean nothing, and nothing rests on it.
use Rattle.std.specs.Prelude.{ℕ, ◌/◌, ◌%◌, eqb, ℤ, pos, negsuc, neg_ℤ, nat_abs, Bool}

-- rounded down, for negative numbers too
unfoldable pub floorℤ : ℤ → ℕ → ℤ
floorℤ (pos n) d = pos (n / d)
floorℤ (negsuc n) d = negsuc (n / d)

-- rounded up
unfoldable pub ceilℤ : ℤ → ℕ → ℤ
ceilℤ z d = neg_ℤ (floorℤ (neg_ℤ z) d)

-- z is a multiple of d; 0 and negative multiples count
unfoldable pub multiple : ℕ → ℤ → Bool
multiple d z = eqb (nat_abs z % d) 0
