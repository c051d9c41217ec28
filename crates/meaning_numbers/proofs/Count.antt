-- How many of the numbers below n pass a test: a turn of a loop (`count-more`), bounds, sums of counts, none and all. Each is an induction on n.
use mir.Val.{bool_byte}
use Rattle.meaning_numbers.specs.Sum.{bit, count}
use Rattle.meaning_numbers.proofs.Prelude.{ℕ, zero, suc, ◌+◌, ◌<◌, ◌≤◌, Bool, true, false, not, ◌&&◌, ◌||◌, false≢true, ◌≡◌, refl, dec_lt, le_step, add-one, arith}

pub bit_le : (b : Bool) → bit b ≤ 1
unfolding bit
bit_le true = omega arith
bit_le false = omega arith

pub bit-true : {b : Bool} → b ≡ true → bit b ≡ 1
unfolding bit
bit-true e = rw e

pub bit-false : {b : Bool} → b ≡ false → bit b ≡ 0
unfolding bit
bit-false e = rw e

pub false-bit : (b : Bool) → bit b ≡ 0 → b ≡ false
unfolding bit
false-bit true h = absurd (omega arith)
false-bit false h = refl

-- a flag cast to a number
pub flag-bit : (b : Bool) → bool_byte b ≡ bit b
unfolding bit
flag-bit true = refl
flag-bit false = refl

pub bit_not : (b : Bool) → bit (not b) + bit b ≡ 1
unfolding bit
bit_not true = refl
bit_not false = refl

pub bit_or : (a b : Bool) → (a && b) ≡ false → bit (a || b) ≡ bit a + bit b
unfolding bit
bit_or true true h = absurd (false≢true (rw h))
bit_or true false h = omega arith
bit_or false b h = omega arith

pub count_none : (p : ℕ → Bool) → count p 0 ≡ 0
unfolding count
count_none p = refl

pub count-more : (p : ℕ → Bool) (n : ℕ) → count p (n + 1) ≡ count p n + bit (p n)
unfolding count
count-more p n = rw (add-one n)

pub count-cong : (p q : ℕ → Bool) (n : ℕ) → ((j : ℕ) → j < n → p j ≡ q j) → count p n ≡ count q n
unfolding count
count-cong p q zero h = refl
count-cong p q (suc n) h = rw (count-cong p q n (λ j l. h j (le_step l)), h n (omega arith))

pub count-le : (p : ℕ → Bool) (n : ℕ) → count p n ≤ n
unfolding count
count-le p zero = omega arith
count-le p (suc n) = omega (arith, count-le p n, bit_le (p n))

pub count-mono : (p q : ℕ → Bool) (n : ℕ) → ((j : ℕ) → j < n → bit (p j) ≤ bit (q j)) → count p n ≤ count q n
unfolding count
count-mono p q zero h = omega arith
count-mono p q (suc n) h = omega (arith, count-mono p q n (λ j l. h j (le_step l)), h n (omega arith))

pub count_add : (a b c d : ℕ → Bool) (n : ℕ) → ((j : ℕ) → j < n → bit (a j) + bit (b j) ≡ bit (c j) + bit (d j)) → count a n + count b n ≡ count c n + count d n
unfolding count
count_add a b c d zero h = refl
count_add a b c d (suc n) h = omega (arith, count_add a b c d n (λ j l. h j (le_step l)), h n (omega arith))

-- a count over the numbers after the first
pub count-shift : (p : ℕ → Bool) (n : ℕ) → count p (suc n) ≡ bit (p 0) + count (λ j. p (suc j)) n
unfolding count
count-shift p zero = omega arith
count-shift p (suc n) = omega (arith, count-shift p n)

-- each number passes or does not
pub count-not : (p : ℕ → Bool) (n : ℕ) → count (λ j. not (p j)) n + count p n ≡ n
unfolding count
count-not p zero = refl
count-not p (suc n) = omega (arith, count-not p n, bit_not (p n))

-- no number passes exactly if the count is 0
pub count-never : (p : ℕ → Bool) (n : ℕ) → ((j : ℕ) → j < n → p j ≡ false) → count p n ≡ 0
unfolding count
count-never p zero h = refl
count-never p (suc n) h = omega (arith, count-never p n (λ j l. h j (le_step l)), bit-false (h n (omega arith)))

pub never-count : (p : ℕ → Bool) (n : ℕ) → count p n ≡ 0 → (j : ℕ) → j < n → p j ≡ false
unfolding count
never-count p zero h j l = absurd (omega arith)
never-count p (suc n) h j l = elim (dec_lt j n) [
  | yes b ↦ never-count p n (omega arith) j b
  | no f ↦ let e : j ≡ n = omega arith in rw e (false-bit (p n) (omega arith))
]
