-- Laws of specs/Listed.
use Rattle.meaning_numbers.proofs.Prelude.{◌≡◌, refl, ◌∙◌, List, ℕ, zero, suc, ◌+◌, ◌<◌, ◌≤◌, add-one, arith, dec_lt, length, get_or, set, length-set, get_or-set_same, get_or-set_other}
use Rattle.extend_count.specs.Listed.{listed}

pub listed-none : (f : ℕ → ℕ) (l : List ℕ) → listed f 0 l ≡ l
unfolding listed
listed-none f l = refl

pub listed_more : (f : ℕ → ℕ) (n : ℕ) (l : List ℕ) → listed f (n + 1) l ≡ set (listed f n l) n (f n)
unfolding listed
listed_more f n l = rw (add-one n)

pub length-listed : (f : ℕ → ℕ) (n : ℕ) (l : List ℕ) → length (listed f n l) ≡ length l
unfolding listed
length-listed f zero l = refl
length-listed f (suc n) l = length-set (listed f n l) n (f n) ∙ length-listed f n l

pub listed_at : (f : ℕ → ℕ) (n : ℕ) (l : List ℕ) → n ≤ length l → (i : ℕ) → i < n → get_or (listed f n l) i 0 ≡ f i
unfolding listed
listed_at f zero l h i b = absurd (omega arith)
listed_at f (suc n) l h i b = elim (dec_lt i n) [
  | yes a ↦ get_or-set_other (listed f n l) n i (f n) 0 (λ e. omega arith) ∙ listed_at f n l (omega arith) i a
  | no a ↦ let e : i ≡ n = omega arith in rw e (get_or-set_same (listed f n l) n (f n) 0 (omega (arith, length-listed f n l)))
]
