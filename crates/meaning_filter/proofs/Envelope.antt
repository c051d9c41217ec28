-- The envelope encloses every query value within b places that exists (`envelope`), and no tighter: each end is such a value (`lower-one`, `upper-one`), so at band 0 both are the query (`lower-straight`, `upper-straight`). By induction on the number of places.
use Rattle.meaning_numbers.proofs.Order.{minℤ-le, maxℤ-le, minℤ-one, maxℤ-one}
use Rattle.meaning_numbers.proofs.Prelude.{◌≡◌, refl, ◌⊎◌, inl, inr, ⊎_elim, ℕ, zero, suc, ◌+◌, ◌-◌, ◌<◌, ◌≤◌, arith, dec_le, ℤ, ◌≤ℤ◌, ≤ℤ_refl, ≤ℤ-trans}
use Rattle.meaning_curves.specs.Warp.{Near}
use Rattle.meaning_filter.specs.Envelope.{least_of, greatest_of, reach_of, lower, upper}

-- L and U enclose, at each place i, every value of q within b places that exists
pub record Envelope (q : ℕ → ℤ) (m b : ℕ) (L U : ℕ → ℤ) : Type 0 where
  pub low : (i j : ℕ) → j < m → Near b i j → L i ≤ℤ q j
  pub high : (i j : ℕ) → j < m → Near b i j → q j ≤ℤ U i

-- ---- over the n + 1 places from k on

-- such a place is the last or before it
last_or : (k n j : ℕ) → j ≤ k + suc n → (j ≤ k + n) ⊎ (j ≡ k + suc n)
last_or k n j h = elim (dec_le j (k + n)) [ yes l ↦ inl l | no f ↦ inr (omega arith) ]

pub least-le : (q : ℕ → ℤ) (k n j : ℕ) → k ≤ j → j ≤ k + n → least_of q k n ≤ℤ q j
unfolding least_of
least-le q k zero j h l = let e : j ≡ k = omega arith in rw e (≤ℤ_refl (q k))
least-le q k (suc n) j h l =
    let m = minℤ-le _ _ in
    ⊎_elim (λ l. ≤ℤ-trans m.0 (least-le q k n j h l)) (λ e. rw e m.1) (last_or k n j l)

pub greatest-le : (q : ℕ → ℤ) (k n j : ℕ) → k ≤ j → j ≤ k + n → q j ≤ℤ greatest_of q k n
unfolding greatest_of
greatest-le q k zero j h l = let e : j ≡ k = omega arith in rw e (≤ℤ_refl (q k))
greatest-le q k (suc n) j h l =
    let m = maxℤ-le _ _ in
    ⊎_elim (λ l. ≤ℤ-trans (greatest-le q k n j h l) m.0) (λ e. rw e m.1) (last_or k n j l)

-- z is the value at one of those places
pub record Enclosed (q : ℕ → ℤ) (k n : ℕ) (z : ℤ) : Type 0 where
  pub place : ℕ
  pub from : k ≤ place
  pub to : place ≤ k + n
  pub same : z ≡ q place

held_more : {q : ℕ → ℤ} {k n : ℕ} {x z : ℤ} → Enclosed q k n x → (z ≡ x) ⊎ (z ≡ q (k + suc n)) → Enclosed q k (suc n) z
held_more {k = k} {n} h (inl e) = record { place = h.place; from = h.from; to = omega arith; same = cc }
held_more {k = k} {n} h (inr e) = record { place = k + suc n; from = omega arith; to = omega arith; same = e }

pub least-one : (q : ℕ → ℤ) (k n : ℕ) → Enclosed q k n (least_of q k n)
unfolding least_of
least-one q k zero = record { place = k; from = omega arith; to = omega arith; same = refl }
least-one q k (suc n) = held_more (least-one q k n) (minℤ-one _ _)

pub greatest-one : (q : ℕ → ℤ) (k n : ℕ) → Enclosed q k n (greatest_of q k n)
unfolding greatest_of
greatest-one q k zero = record { place = k; from = omega arith; to = omega arith; same = refl }
greatest-one q k (suc n) = held_more (greatest-one q k n) (⊎_elim inr inl (maxℤ-one _ _))

-- ---- the envelope

pub envelope : (q : ℕ → ℤ) (m b : ℕ) → Envelope q m b (lower q m b) (upper q m b)
unfolding lower upper
envelope q m b = record {
  low = λ i j h n. least-le q (i - b) _ j (omega arith) (omega arith);
  high = λ i j h n. greatest-le q (i - b) _ j (omega arith) (omega arith);
}

pub lower-one : (q : ℕ → ℤ) (m b i : ℕ) → i < m → (j : ℕ) × (j < m) × Near b i j × (lower q m b i ≡ q j)
unfolding lower
lower-one q m b i h = let o = least-one q (i - b) (reach_of m b i) in (o.place, omega arith, omega arith, o.same)

pub upper-one : (q : ℕ → ℤ) (m b i : ℕ) → i < m → (j : ℕ) × (j < m) × Near b i j × (upper q m b i ≡ q j)
unfolding upper
upper-one q m b i h = let o = greatest-one q (i - b) (reach_of m b i) in (o.place, omega arith, omega arith, o.same)

-- ---- at band 0

pub lower-straight : (q : ℕ → ℤ) (m i : ℕ) → i < m → lower q m 0 i ≡ q i
lower-straight q m i h = let o = lower-one q m 0 i h in let e : o.0 ≡ i = omega (arith, o.2) in rw e at o.3

pub upper-straight : (q : ℕ → ℤ) (m i : ℕ) → i < m → upper q m 0 i ≡ q i
upper-straight q m i h = let o = upper-one q m 0 i h in let e : o.0 ≡ i = omega (arith, o.2) in rw e at o.3
