-- The table of a series rises (`table-rises`), and has the row number of each window (`table-has`).
use Rattle.meaning_numbers.proofs.Prelude.{◌≡◌, refl, sym, ap, ◌∙◌, Bool, true, List, [], ◌∷◌, ◌++◌, ℕ, zero, suc, ◌+◌, ◌<◌, arith, dec_lt, ℤ, length, get_or, take, length-append, List·get_d-append, get_or_at, get_or-take, by-test}
use Rattle.sums_slide.specs.{Levels.level, Levels.row_of, Levels.windows_of, Levels.Lent, Picked.picked, Marks.met, Table.table, Table.top}
use Rattle.sums_slide.proofs.{Picked.picked-start, Picked.picked-yes, Picked.picked-no, Marks.met-yes, Table.below_top}
use Rattle.sums_count.specs.Tally.{Rising, Has}

-- a number above all the others put behind them
rising-end : (l : List ℕ) (v : ℕ) → Rising l (length l) → ((i : ℕ) → i < length l → get_or l i 0 < v) → Rising (l ++ (v ∷ [])) (length (l ++ (v ∷ [])))
rising-end l v r b = record {
  up = λ i k h m. let n = length-append l (v ∷ []) in elim (dec_lt k (length l)) [
    | yes s ↦ rw (List·get_d-append l _ 0 i (omega arith), List·get_d-append l _ 0 k s) (r.up i k h s)
    | no f ↦ let e : k ≡ length l = omega arith in rw (e, get_or_at l v [] 0 _ refl, List·get_d-append l _ 0 i (omega arith)) (b i (omega arith))
  ];
}

-- all below a bound
below_end : (l : List ℕ) (v m : ℕ) → v < m → ((i : ℕ) → i < length l → get_or l i 0 < m) → (i : ℕ) → i < length (l ++ (v ∷ [])) → get_or (l ++ (v ∷ [])) i 0 < m
below_end l v m h b i s = let n = length-append l (v ∷ []) in elim (dec_lt i (length l)) [
  | yes q ↦ rw (List·get_d-append l _ 0 i q) (b i q)
  | no f ↦ let e : i ≡ length l = omega arith in rw (e, get_or_at l v [] 0 _ refl) h
]

picked-below : (p : ℕ → Bool) (base m i : ℕ) → i < length (picked p base m) → get_or (picked p base m) i 0 < base + m
picked-below p base zero i h = absurd (omega (arith, ap length (picked-start p base)))
picked-below p base (suc m) i h =
    let s : suc m ≡ m + 1 = omega arith in
    by-test _
    (λ t. let e = ap (picked p base) s ∙ picked-yes p base m t in
    rw e (below_end (picked p base m) _ _ (omega arith) (λ k l. omega (arith, picked-below p base m k l)) i (rw e at h)))
    (λ t. let e = ap (picked p base) s ∙ picked-no p base m t in rw e (omega (arith, picked-below p base m i (rw e at h))))

picked-rises : (p : ℕ → Bool) (base m : ℕ) → Rising (picked p base m) (length (picked p base m))
picked-rises p base zero = rw (picked-start p base) (record { up = λ i k h l. absurd (omega arith) })
picked-rises p base (suc m) =
    let s : suc m ≡ m + 1 = omega arith in
    by-test _
    (λ t. rw (s, picked-yes p base m t) (rising-end _ _ (picked-rises p base m) (λ i l. picked-below p base m i l)))
    (λ t. rw (s, picked-no p base m t) (picked-rises p base m))

has_end : (l : List ℕ) (v k : ℕ) → Has l (length l) k → Has (l ++ (v ∷ [])) (length (l ++ (v ∷ []))) k
has_end l v k h = record { at = h.at; below = omega (arith, h.below, length-append l (v ∷ [])); is = List·get_d-append l _ 0 h.at h.below ∙ h.is }

picked-has : (p : ℕ → Bool) (base m x : ℕ) → x < m → p (base + x) ≡ true → Has (picked p base m) (length (picked p base m)) (base + x)
picked-has p base zero x l h = absurd (omega arith)
picked-has p base (suc m) x l h =
    let s : suc m ≡ m + 1 = omega arith in
    elim (dec_lt x m) [
      | yes b ↦ by-test _
          (λ t. rw (s, picked-yes p base m t) (has_end _ _ _ (picked-has p base m x b h)))
          (λ t. rw (s, picked-no p base m t) (picked-has p base m x b h))
      | no f ↦ let e : x ≡ m = omega arith in
          let t : p (base + m) ≡ true = rw e at h in
          rw (s, picked-yes p base m t, e) (record { at = length (picked p base m); below = omega (arith, length-append (picked p base m) ((base + m) ∷ [])); is = get_or_at (picked p base m) _ [] 0 _ refl })
    ]

pub table-rises : (s : List ℤ) (w e d : ℕ) → Rising (table s w e d) (length (table s w e d))
unfolding table
table-rises s w e d = picked-rises _ 0 top

pub table-has : {s : List ℤ} {w e : ℕ} (d : ℕ) → Lent s w e → (j : ℕ) → j < windows_of s w → Has (table s w e d) (length (table s w e d)) (row_of (level s w e) d j)
unfolding table
table-has {s} {w} {e} d h j l =
    let row = row_of (level s w e) d in
    let z : 0 + row j ≡ row j = omega arith in
    rw z at (picked-has (met row (windows_of s w)) 0 top (row j) (below_top d h j) (rw z (met-yes row _ j (row j) l refl)))

-- ---- the table at the front of a slice

module _ (t u : List ℕ) (n : ℕ) (e : take n t ≡ u) (m : n ≡ length u) where
  pub front_at : (i : ℕ) → i < n → get_or t i 0 ≡ get_or u i 0
  front_at i h = sym (get_or-take n t i 0 h) ∙ rw e

  pub front-rising : Rising u (length u) → Rising t n
  front-rising r = record { up = λ i k a b. rw (front_at i (omega arith), front_at k b) (r.up i k a (omega arith)) }

  pub front-has : {k : ℕ} → Has u (length u) k → Has t n k
  front-has h = record { at = h.at; below = omega arith; is = front_at h.at (omega arith) ∙ h.is }
