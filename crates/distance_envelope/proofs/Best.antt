-- Laws of specs/Best.
use Rattle.meaning_numbers.proofs.Order.{minℤ-le, maxℤ-le, minℤ-one, maxℤ-one}
use Rattle.meaning_numbers.proofs.Prelude.{◌≡◌, refl, ◌∙◌, Bool, true, false, ◌⊎◌, inl, inr, ⊎_elim, ℕ, ◌+◌, ◌-◌, ◌<◌, ◌≤◌, min, arith, dec_le, ℤ, ≤ℤ_refl, ≤ℤ-trans, ≤ℤ-antisym}
use Rattle.meaning_curves.specs.Warp.{Near}
use Rattle.meaning_filter.proofs.Envelope.{envelope, lower-one, upper-one}
use Rattle.distance_envelope.specs.Best.{pick, edge, out, Best}

out-self : (t : Bool) (x : ℤ) → out t x x
out-self true x = ≤ℤ_refl x
out-self false x = ≤ℤ_refl x

out-trans : (t : Bool) (x y z : ℤ) → out t x y → out t y z → out t x z
out-trans true x y z h k = ≤ℤ-trans h k
out-trans false x y z h k = ≤ℤ-trans k h

pick_out : (t : Bool) (x y : ℤ) → out t (pick t x y) x × out t (pick t x y) y
pick_out true x y = minℤ-le x y
pick_out false x y = maxℤ-le x y

pick-one : (t : Bool) (x y : ℤ) → (pick t x y ≡ x) ⊎ (pick t x y ≡ y)
pick-one true x y = minℤ-one x y
pick-one false x y = ⊎_elim inr inl (maxℤ-one x y)

-- ---- of the places from lo to hi

-- one place
pub best-one : (t : Bool) (q : ℕ → ℤ) {lo hi i : ℕ} → lo ≡ i → hi ≡ i → Best t q lo hi (q i)
best-one t q {lo} {hi} {i} e f =
    record { place = i; from = omega arith; to = omega arith; same = refl; all = λ j h k. let s : j ≡ i = omega arith in rw s (out-self t (q i)) }

-- the same places by other ends
best-ends : {t : Bool} {q : ℕ → ℤ} {lo hi lo' hi' : ℕ} {z : ℤ} → Best t q lo hi z → lo ≡ lo' → hi ≡ hi' → Best t q lo' hi' z
best-ends b e f = record { place = b.place; from = omega arith; to = omega arith; same = b.same; all = λ j h k. b.all j (omega arith) (omega arith) }

-- the same value, and values that are the same at these places
pub best-same : {t : Bool} {q : ℕ → ℤ} {lo hi : ℕ} {y z : ℤ} → z ≡ y → Best t q lo hi y → Best t q lo hi z
best-same e b = rw e b

pub best_of : {t : Bool} {q r : ℕ → ℤ} {m lo hi : ℕ} {z : ℤ} → ((k : ℕ) → k < m → r k ≡ q k) → Best t r lo hi z → hi < m → Best t q lo hi z
best_of f b h = record {
  place = b.place;
  from = b.from;
  to = b.to;
  same = b.same ∙ f b.place (omega arith);
  all = λ j u v. rw (f j (omega arith)) at (b.all j u v);
}

-- two stretches of places that touch
best-join : {t : Bool} {q : ℕ → ℤ} {l h l' h' : ℕ} {x y : ℤ} → Best t q l h x → Best t q l' h' y → l ≤ l' → l' ≤ h + 1 → h ≤ h' → Best t q l h' (pick t x y)
best-join {t} {q} {l} {h} {l'} {h'} {x} {y} a b first touch last =
    let p = pick_out t x y in
    let all : (j : ℕ) → l ≤ j → j ≤ h' → out t (pick t x y) (q j) = λ j u v. elim (dec_le j h) [
      | yes k ↦ out-trans t (pick t x y) x (q j) p.0 (a.all j u k)
      | no f ↦ out-trans t (pick t x y) y (q j) p.1 (b.all j (omega arith) v)
    ] in
    ⊎_elim
    (λ e. record { place = a.place; from = a.from; to = omega arith; same = rw e a.same; all = all })
    (λ e. record { place = b.place; from = omega arith; to = b.to; same = rw e b.same; all = all })
    (pick-one t x y)

-- ---- windows that reach n places ahead, and back

module _ {t : Bool} {q X : ℕ → ℤ} (m n d : ℕ) (far : d ≤ n + 1) where
  pub ahead_more : ((i : ℕ) → i < m → Best t q i (min (i + n) (m - 1)) (X i)) → (i : ℕ) → i + d < m → Best t q i (min (i + (n + d)) (m - 1)) (pick t (X i) (X (i + d)))
  ahead_more h i l = best-ends (best-join (h i (omega arith)) (h (i + d) l) (omega arith) (omega arith) (omega arith)) refl (omega arith)

  pub ahead-kept : ((i : ℕ) → i < m → Best t q i (min (i + n) (m - 1)) (X i)) → (i : ℕ) → i < m → m ≤ i + d → Best t q i (min (i + (n + d)) (m - 1)) (X i)
  ahead-kept h i l k = best-ends (h i l) refl (omega arith)

  pub back_more : ((i : ℕ) → i < m → Best t q (i - n) i (X i)) → (i : ℕ) → i < m → d ≤ i → Best t q (i - (n + d)) i (pick t (X (i - d)) (X i))
  back_more h i l k = best-ends (best-join (h (i - d) (omega arith)) (h i l) (omega arith) (omega arith) (omega arith)) (omega arith) refl

  pub back-kept : ((i : ℕ) → i < m → Best t q (i - n) i (X i)) → (i : ℕ) → i < m → i < d → Best t q (i - (n + d)) i (X i)
  back-kept h i l k = best-ends (h i l) (omega arith) refl

-- ---- one after the other

module _ {t : Bool} {q X : ℕ → ℤ} {z : ℤ} (m b i : ℕ) where
  pub best-through : ((j : ℕ) → j < m → Best t q j (min (j + b) (m - 1)) (X j)) → i < m → Best t X (i - b) i z → Best t q (i - b) (min (i + b) (m - 1)) z
  best-through h l y =
      let x = h y.place (omega arith) in
      let over : (j k : ℕ) → i - b ≤ j → j ≤ i → j ≤ k → k ≤ j + b → k < m → out t z (q k) =
      λ j k u v lo hi in-m. out-trans t z (X j) (q k) (y.all j u v) ((h j (omega arith)).all k lo (omega arith)) in
      record {
        place = x.place;
        from = omega arith;
        to = omega arith;
        same = y.same ∙ x.same;
        all = λ j u v. elim (dec_le j i) [
          | yes k ↦ over j j u k (omega arith) (omega arith) (omega arith)
          | no f ↦ over i j (omega arith) (omega arith) (omega arith) (omega arith) (omega arith)
        ];
      }

-- it is the envelope
pub best-edge : (t : Bool) (q : ℕ → ℤ) (m b i : ℕ) {z : ℤ} → i < m → Best t q (i - b) (min (i + b) (m - 1)) z → z ≡ edge t q m b i
best-edge true q m b i {z} l a =
    let e = envelope q m b in
    let o = lower-one q m b i l in
    let near : Near b i a.place = record { first = omega arith; second = omega arith } in
    ≤ℤ-antisym (rw o.3 (a.all o.0 (omega arith) (omega arith))) (rw a.same (e.low i _ (omega arith) near))
best-edge false q m b i {z} l a =
    let e = envelope q m b in
    let o = upper-one q m b i l in
    let near : Near b i a.place = record { first = omega arith; second = omega arith } in
    ≤ℤ-antisym (rw a.same (e.high i _ (omega arith) near)) (rw o.3 (a.all o.0 (omega arith) (omega arith)))
