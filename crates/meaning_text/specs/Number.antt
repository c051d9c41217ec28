-- Numbers in base ten of at most 18 digits, without leading zeros or -0.
use Rattle.std.specs.Prelude.{ℕ, zero, suc, ◌+◌, ◌-◌, ◌*◌, ◌/◌, ◌%◌, ◌<◌, ◌^◌, leb, ltb, eqb, ℤ, pos, negsuc, neg_ℤ, nat_abs, Bool, true, false, ◌&&◌, List, [], ◌∷◌, ◌++◌}

-- the digits of n, the last one last; k bounds how many are taken off
unfoldable pub digits : ℕ → ℕ → List ℕ
digits zero n = (48 + n) ∷ []
digits (suc k) n = elim (ltb n 10) [ true ↦ (48 + n) ∷ [] | false ↦ digits k (n / 10) ++ ((48 + n % 10) ∷ []) ]

-- a natural number in base ten
unfoldable pub spellℕ : ℕ → List ℕ
spellℕ n = digits n n

-- a number as it is written: '-' in front of a negative one
unfoldable pub spellℤ : ℤ → List ℕ
spellℤ (pos n) = spellℕ n
spellℤ (negsuc n) = 45 ∷ spellℕ (suc n)

-- at most 18 digits
abbrev pub Short : ℤ → Type 0
Short z = nat_abs z < 10 ^ 18

-- ---- reading

-- what reading from a text comes to: a value with the bytes after it, or the bytes from the first bad one on
pub data Read (A : Type 0) : Type 0 where
  got : A → List ℕ → Read A
  bad : List ℕ → Read A

abbrev pub is_digit : ℕ → Bool
is_digit b = leb 48 b && leb b 57

-- at most k digits more, behind the digits of m
unfoldable pub read_digits : ℕ → ℕ → List ℕ → Read ℕ
read_digits zero m t = got m t
read_digits (suc k) m [] = got m []
read_digits (suc k) m (b ∷ t) = elim (is_digit b) [ true ↦ read_digits k (10 * m + (b - 48)) t | false ↦ got m (b ∷ t) ]

-- a number above 0: a digit that is no 0, and at most 17 more
unfoldable pub read_positive : List ℕ → Read ℕ
read_positive [] = bad []
read_positive (b ∷ t) = elim (is_digit b && ltb 48 b) [ true ↦ read_digits 17 (b - 48) t | false ↦ bad (b ∷ t) ]

-- a number read, with its sign
unfoldable pub with_sign : (ℕ → ℤ) → Read ℕ → Read ℤ
with_sign f (got n t) = got (f n) t
with_sign f (bad t) = bad t

-- '-' and a number above 0; or 0; or a number above 0
unfoldable pub readℤ : List ℕ → Read ℤ
readℤ [] = bad []
readℤ (b ∷ t) = elim (eqb b 45) [
  | true ↦ with_sign (λ n. neg_ℤ (pos n)) (read_positive t)
  | false ↦ elim (eqb b 48) [ true ↦ got (pos 0) t | false ↦ with_sign pos (read_positive (b ∷ t)) ]
]
