-- The digits of a number, as the code writes them: those of a tenth of it and the last, and a '-' before those of a negative one.
use Rattle.meaning_numbers.proofs.Prelude.{◌≡◌, refl, sym, ap, ◌∙◌, [], ◌∷◌, ◌++◌, ℕ, zero, suc, ◌+◌, ◌*◌, ◌/◌, ◌%◌, ◌<◌, ◌≤◌, ◌^◌, pow-suc, arith, ℤ, pos, negsuc, nat_abs, ◌≤ℤ◌, ◌<ℤ◌, zarith, dec_le, length, length-append}
use Rattle.meaning_text.specs.Number.{spellℕ, spellℤ}
use Rattle.meaning_text.proofs.Number.{spell-one, spell-more}

pub spell-split : (n : ℕ) → 10 ≤ n → spellℕ n ≡ spellℕ (n / 10) ++ ((48 + n % 10) ∷ [])
spell-split n h = let e : 10 * (n / 10) + n % 10 ≡ n = omega arith in ap spellℕ (sym e) ∙ spell-more (n / 10) (n % 10) (omega arith) (omega arith)

pub spell-minus : (z : ℤ) → z <ℤ pos 0 → spellℤ z ≡ 45 ∷ spellℕ (nat_abs z)
unfolding spellℤ
spell-minus (pos n) h = absurd (omega zarith)
spell-minus (negsuc n) h = refl

pub spell-plus : (z : ℤ) → pos 0 ≤ℤ z → spellℤ z ≡ spellℕ (nat_abs z)
unfolding spellℤ
spell-plus (pos n) h = refl
spell-plus (negsuc n) h = absurd (omega zarith)

-- ---- how many digits there are

length-split : (n : ℕ) → 10 ≤ n → length (spellℕ n) ≡ length (spellℕ (n / 10)) + 1
length-split n h = ap length (spell-split n h) ∙ length-append (spellℕ _) ((48 + n % 10) ∷ [])

pub length-one : (n : ℕ) → n < 10 → length (spellℕ n) ≡ 1
length-one n h = ap length (spell-one n h)

-- a number of k digits and one more
pub length-between : (k n : ℕ) → 10 ^ k ≤ n → n < 10 ^ suc k → length (spellℕ n) ≡ suc k
length-between zero n h g = length-one n g
length-between (suc k) n h g =
    omega (arith, length-between k (n / 10) (omega arith) (omega arith), length-split n (omega arith))

pub length_most : (k n : ℕ) → n < 10 ^ suc k → length (spellℕ n) ≤ suc k
length_most zero n g = omega (arith, length-one n g)
length_most (suc k) n g = elim (dec_le 10 n) [
  | yes h ↦ omega (arith, length-split n h, length_most k (n / 10) (omega (arith, pow-suc 10 (suc k))))
  | no f ↦ omega (arith, length-one n (omega arith))
]

-- the five last digits taken off
pub length-five : (n : ℕ) → 100000 ≤ n → length (spellℕ n) ≡ length (spellℕ (n / 100000)) + 5
length-five n h =
    let a = n / 10 in
    let b = a / 10 in
    let c = b / 10 in
    let d = c / 10 in
    let e : d / 10 ≡ n / 100000 = omega arith in
    omega (arith, length-split n (omega arith), length-split a (omega arith), length-split b (omega arith), length-split c (omega arith), length-split d (omega arith), ap (λ m. length (spellℕ m)) e)
