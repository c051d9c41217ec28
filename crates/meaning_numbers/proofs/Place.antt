-- The first place that passes a test. `First` says what it is and `Nowhere` that there is none; `place_is` and `none_is` say that `first_place` answers so.
-- One or the other holds of every list (`look`), so the answer of `first_place` tells which (`is-place`, `is_none`). The default stands for entries past the end and is asked by nothing.
use Rattle.meaning_numbers.specs.Place.{place_from, first_place}
use Rattle.meaning_numbers.proofs.Tests.{is_true, is_false, decided}
use Rattle.meaning_numbers.proofs.Prelude.{ℕ, zero, suc, ◌+◌, ◌<◌, T, length, get_or, Bool, not, List, [], ◌∷◌, ◌⊎◌, inl, inr, ⊎_elim, None, Some, ◌≡◌, refl, arith}

-- n is the place of the first entry of l that passes
pub record First {A : Type 0} (p : A → Bool) (default : A) (l : List A) (n : ℕ) : Type 0 where
  pub inside : n < length l
  pub passes : T (p (get_or l n default))
  pub before : (j : ℕ) → j < n → T (not (p (get_or l j default)))

-- no entry of l passes
pub record Nowhere {A : Type 0} (p : A → Bool) (default : A) (l : List A) : Type 0 where
  pub fails : (j : ℕ) → j < length l → T (not (p (get_or l j default)))

module _ {A : Type 0} (p : A → Bool) (d : A) where
  -- ---- the entries after the first

  first-after : {x : A} {l : List A} {n : ℕ} → First p d (x ∷ l) (suc n) → First p d l n
  first-after f = record { inside = omega arith; passes = f.passes; before = λ j h. f.before (suc j) (omega arith) }

  nowhere-after : {x : A} {l : List A} → Nowhere p d (x ∷ l) → Nowhere p d l
  nowhere-after f = record { fails = λ j h. f.fails (suc j) (omega arith) }

  fails_more : (x : A) (l : List A) (n : ℕ) → T (not (p x)) → ((j : ℕ) → j < n → T (not (p (get_or l j d)))) → (j : ℕ) → j < suc n → T (not (p (get_or (x ∷ l) j d)))
  fails_more x l n t f zero h = t
  fails_more x l n t f (suc j) h = f j (omega arith)

  first_more : {x : A} {l : List A} {n : ℕ} → T (not (p x)) → First p d l n → First p d (x ∷ l) (suc n)
  first_more {x} {l} {n} t f = record { inside = omega arith; passes = f.passes; before = fails_more x l n t f.before }

  -- ---- what is first is found

  place-from : (k : ℕ) (l : List A) (n : ℕ) → First p d l n → place_from k p l ≡ Some (k + n)
  unfolding place_from
  place-from k [] n f = absurd (omega arith)
  place-from k (x ∷ l) zero f = let e : k + 0 ≡ k = omega arith in rw (is_true (p x) f.passes, e)
  place-from k (x ∷ l) (suc n) f =
      let e : suc k + n ≡ k + suc n = omega arith in
      rw (is_false (p x) (f.before 0 (omega arith)), place-from (suc k) l n (first-after f), e)

  none_from : (k : ℕ) (l : List A) → Nowhere p d l → place_from k p l ≡ None
  unfolding place_from
  none_from k [] f = refl
  none_from k (x ∷ l) f = rw (is_false (p x) (f.fails 0 (omega arith)), none_from (suc k) l (nowhere-after f))

  pub place_is : {l : List A} {n : ℕ} → First p d l n → first_place p l ≡ Some n
  place_is {l} {n} f = let e : 0 + n ≡ n = omega arith in rw e at (place-from 0 l n f)

  pub none_is : {l : List A} → Nowhere p d l → first_place p l ≡ None
  none_is {l} f = none_from 0 l f

  -- ---- and what is found is first

  pub look : (l : List A) → ((n : ℕ) × First p d l n) ⊎ Nowhere p d l
  look [] = inr (record { fails = λ j h. absurd (omega arith) })
  look (x ∷ l) = ⊎_elim
      (λ t. inl (0, record { inside = omega arith; passes = t; before = λ j h. absurd (omega arith) }))
      (λ t. ⊎_elim (λ f. inl (suc f.0, first_more t f.1)) (λ f. inr (record { fails = fails_more x l (length l) t f.fails })) (look l))
      (decided (p x))

  pub is-place : {l : List A} {n : ℕ} → first_place p l ≡ Some n → First p d l n
  is-place {l} {n} e = ⊎_elim
      (λ f. let g = place_is f.1 in let same : f.0 ≡ n = cc in rw same at f.1)
      (λ f. let g = none_is f in let z : ◌≡◌ {A = ℕ} 0 1 = cc in absurd (omega arith))
      (look l)

  pub is_none : {l : List A} → first_place p l ≡ None → Nowhere p d l
  is_none {l} e = ⊎_elim (λ f. let g = place_is f.1 in let z : ◌≡◌ {A = ℕ} 0 1 = cc in absurd (omega arith)) (λ f. f) (look l)
