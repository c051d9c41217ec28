-- The stretch of runs that code finds has exactly the windows that stand in a row that the range meets (`span-met`), and lies inside the run buffer (`span-inside`, `span-few`), where the index is well formed.
-- The rows met are those from row a up to row e: they begin after the rows that end at or below the range, and end before those that begin above it. Their runs stand side by side.
use Rattle.meaning_numbers.specs.Place.{any}
use Rattle.meaning_numbers.proofs.Member.{any-mem, any-cong, all-mem, mem-at}
use Rattle.meaning_numbers.proofs.Prelude.{◌≡◌, refl, sym, ap, ◌∙◌, subst, Bool, true, false, cond, ◌&&◌, false≢true, List, [], ◌∷◌, ℕ, zero, suc, ◌+◌, ◌-◌, ◌<◌, ◌≤◌, arith, dec_lt, dec_le, ltb, ℤ, pos, nat_abs, length, get_or, take, drop, length-take, length-drop, List·get_d-eq-default, get_or-take, get_or-drop, take-length, le_z, lt_z, ◌≤ℤ◌, ◌<ℤ◌, ltb-true, ltb-false, lt-ltb, le-ltb, ne_eqb, zmach, lt-lt_z, le_z-true, lt_z-true, by-test, both, of-both}
use Rattle.meaning_rows.specs.{declared.Row.Row, Index.Index, Index.Entry, Index.in_run, Index.stands}
use Rattle.meaning_rows.proofs.Range.{le-le_z}
use Rattle.meaning_rows.proofs.Judge.{WellFormed, GoodRow, run_total, each_row, row_at, order-at, first-at, runs-at-most, length-runs_of}
use Rattle.meaning_filter.specs.Candidates.{met, stands_met}
use Rattle.rows_records.specs.Records.{zero_row}
use Rattle.rows_find.specs.Search.{Climbs}
use Rattle.candidate_met.specs.Met.{clamp_of, first_above, end_of, reached_runs, span_of, met_span}
use Rattle.candidate_met.proofs.{Ends.row-end, Ends.clamp-lt, Ends.clamp-le, Above.above-le, Above.above_before, Above.above_at}

-- ---- some entry passes, by its place

pub record Place {A : Type 0} (p : A → Bool) (o : A) (l : List A) : Type 0 where
  pub at : ℕ
  pub inside : at < length l
  pub passes : p (get_or l at o) ≡ true

some-place : {A : Type 0} (p : A → Bool) (o : A) (l : List A) → any p l ≡ true → Place p o l
unfolding any
some-place p o [] h = absurd (false≢true h)
some-place p o (x ∷ l) h = by-test (p x) (λ t. record { at = 0; inside = omega arith; passes = t })
    (λ f. let r = some-place p o l (rw f at h) in record { at = suc r.at; inside = omega arith; passes = r.passes })

place-some : {A : Type 0} (p : A → Bool) (o : A) (l : List A) (k : ℕ) → k < length l → p (get_or l k o) ≡ true → any p l ≡ true
place-some p o l k h t = any-mem p (mem-at o l k h) t

same_test : (a b : Bool) → (a ≡ true → b ≡ true) → (b ≡ true → a ≡ true) → a ≡ b
same_test true b f g = sym (f refl)
same_test false true f g = g refl
same_test false false f g = refl

abbrev none : Entry
none = (pos 0, pos 0)

module _ (x : Index) (f : WellFormed x) where
  abbrev rows : List Row
  rows = x.rows

  abbrev row : ℕ → Row
  row k = get_or rows k zero_row

  -- where the runs of the first k rows end
  abbrev F : ℕ → ℕ
  F k = run_total (take k rows)

  total-more : (l : List Row) (k : ℕ) → k < length l → run_total (take (suc k) l) ≡ run_total (take k l) + (get_or l k zero_row).runs
  unfolding run_total
  total-more [] k h = absurd (omega arith)
  total-more (r ∷ l) zero h = omega arith
  total-more (r ∷ l) (suc k) h = omega (arith, total-more l k (omega arith))

  F-more : (k : ℕ) → k < length rows → F (suc k) ≡ F k + (row k).runs
  F-more k h = total-more rows k h

  F-step : (k d : ℕ) → k + d ≤ length rows → F k ≤ F (k + d)
  F-step k zero h = let e : k + 0 ≡ k = omega arith in rw e (omega arith)
  F-step k (suc d) h = let e : k + suc d ≡ suc (k + d) = omega arith in rw e (omega (arith, F-more (k + d) (omega arith), F-step k d (omega arith)))

  F-mono : (k m : ℕ) → k ≤ m → m ≤ length rows → F k ≤ F m
  F-mono k m h l = let e : m ≡ k + (m - k) = omega arith in rw e (F-step k (m - k) (omega arith))

  -- row k's runs lie inside the run buffer
  F-inside : (k : ℕ) → k ≤ length rows → F k ≤ length x.runs
  unfolding run_total
  F-inside zero h = omega arith
  F-inside (suc k) h = omega (arith, F-more k h, first-at x f zero_row k h, (row_at x f zero_row k h).fits)

  -- and there are at most as many as windows
  F-few : (k : ℕ) → k ≤ length rows → F k ≤ nat_abs x.windows
  F-few k h = omega (arith, F-mono k _ h (omega arith), ap run_total (take-length rows), runs-at-most x f)

  -- the row that has run g
  row_of : (a d g : ℕ) → a + d ≤ length rows → F a ≤ g → g < F (a + d) → (k : ℕ) × (a ≤ k) × (k < a + d) × (F k ≤ g) × (g < F (suc k))
  row_of a zero g n h l = let e : a + 0 ≡ a = omega arith in let l' : g < F a = rw e at l in absurd (omega arith)
  row_of a (suc d) g n h l = elim (dec_lt g (F (a + d))) [
    | yes y ↦ let r = row_of a d g (omega arith) h y in (r.0, r.1, omega arith, r.3, r.4)
    | no m ↦ let e : a + suc d ≡ suc (a + d) = omega arith in (a + d, omega arith, omega arith, omega arith, rw e at l)
  ]

  -- ---- the runs of the rows from a up to e

  module _ (j a e : ℕ) (within : e ≤ length rows) (begins : a ≤ length rows) where
    abbrev stretch : List Entry
    stretch = take (F e - F a) (drop (F a) x.runs)

    -- j stands in one of those rows
    pub record Stands : Type 0 where
      pub at : ℕ
      pub low : a ≤ at
      pub high : at < e
      pub is : stands x (row at) j ≡ true

    into : Stands → any (in_run j) stretch ≡ true
    into s =
        let k = s.at in
        let n : k < length rows = omega arith in
        let t = some-place _ none _ s.is in
        let u : t.at < (row k).runs = omega (arith, t.inside, length-runs_of x (row k) (row_at x f zero_row k n).fits) in
        let g = get_or-take _ _ t.at none u ∙ get_or-drop (row k).first x.runs t.at none in
        let m = F-more k n in
        let c = first-at x f zero_row k n in
        let y = F-mono a k s.low (omega arith) in
        let z = F-mono (suc k) e s.high within in
        let i = F k + t.at - F a in
        let same : F a + i ≡ (row k).first + t.at = omega arith in
        place-some (in_run j) none stretch i (simp (length-take, length-drop) (omega (arith, F-inside e within)))
        (rw (get_or-take (F e - F a) (drop (F a) x.runs) i none (omega arith), get_or-drop (F a) x.runs i none, same, ← g) t.passes)

    out : any (in_run j) stretch ≡ true → Stands
    out h =
        let t = some-place _ none stretch h in
        let i = t.at in
        let b : i < F e - F a = omega (arith, simp (length-take, length-drop) at t.inside) in
        let o : a ≤ e = order i b in
        let n : a + (e - a) ≡ e = omega arith in
        let r = row_of a (e - a) (F a + i) (omega arith) (omega arith) (rw n (omega arith)) in
        let k = r.0 in
        let kn : k < length rows = omega arith in
        let c = first-at x f zero_row k kn in
        let m = F-more k kn in
        let u : F a + i - F k < (row k).runs = omega arith in
        let same : (row k).first + (F a + i - F k) ≡ F a + i = omega arith in
        record {
          at = k;
          low = r.1;
          high = omega arith;
          is = place-some _ none _ (F a + i - F k) (omega (arith, length-runs_of x (row k) (row_at x f zero_row k kn).fits))
              (rw (get_or-take (row k).runs (drop (row k).first x.runs) (F a + i - F k) none u, get_or-drop (row k).first x.runs (F a + i - F k) none, same)
              (rw (get_or-take (F e - F a) (drop (F a) x.runs) i none b, get_or-drop (F a) x.runs i none) at t.passes));
        }
      where
        order : (i : ℕ) → i < F e - F a → a ≤ e
        order i b = elim (dec_le a e) [ yes y ↦ y | no n ↦ let m = F-mono e a (omega arith) begins in absurd (omega arith) ]

  none_before : (k : ℕ) (r : Row) → k ≡ 0 → end_of k r ≡ F k
  unfolding run_total
  none_before zero r q = refl
  none_before (suc k) r q = absurd (omega arith)

  none-reached : (r : Row) (h : ℤ) → r ≡ zero_row → reached_runs r h ≡ 0
  none-reached r h q = rw q (by-test (le_z (pos 0) h) (λ t. rw t) (λ t. rw t))

  -- ---- the rows that a range meets

  module _ (low high : ℤ) where
    abbrev n : ℕ
    n = length rows

    abbrev a : ℕ
    a = first_above rows low

    abbrev b : ℕ
    b = first_above rows high

    -- up to row b, with it where it begins at or below the range's upper end
    e : ℕ
    e = cond (ltb b n && le_z (row b).low high) (suc b) b

    last-with : b < n → le_z (row b).low high ≡ true → e ≡ suc b
    unfolding e
    last-with h t = rw (lt-ltb b n h, t)

    last-without : b < n → le_z (row b).low high ≡ false → e ≡ b
    unfolding e
    last-without h t = rw (lt-ltb b n h, t)

    last_end : n ≤ b → e ≡ b
    unfolding e
    last_end h = rw (le-ltb b n h)

    -- by the three cases
    by_last {ℓ} : {X : Type ℓ} → ((b < n) → le_z (row b).low high ≡ true → e ≡ suc b → X) → (e ≡ b → ((b < n) → le_z (row b).low high ≡ false) → X) → X
    by_last f g = elim (dec_lt b n) [
      | yes h ↦ by-test (le_z (row b).low high) (λ t. f h t (last-with h t)) (λ t. g (last-without h t) (λ _. t))
      | no m ↦ g (last_end (omega arith)) (λ h. absurd (omega arith))
    ]

    e-le : e ≤ n
    e-le = by_last (λ h t s. omega (arith, s)) (λ s t. omega (arith, s, above-le rows high))

    met-low : (k : ℕ) → k < n → met (low, high) (row k) ≡ true → a ≤ k
    met-low k h t = elim (dec_le a k) [
      | yes y ↦ y
      | no m ↦ let u = above_before rows low k (omega arith) in let v = lt_z-true {a = low} (both (le_z (row k).low high) (lt_z low (row k).up) t).1 in absurd (omega zmach)
    ]

    -- a row past row b begins above the range
    past : (k : ℕ) → b < k → k < n → high <ℤ (row k).low
    past k l h = let u = order-at x f zero_row b k l h in let v = above_at rows high (omega arith) in omega zmach

    met-high : (k : ℕ) → k < n → met (low, high) (row k) ≡ true → k < e
    met-high k h t =
        let v = le_z-true {a = (row k).low} (both _ _ t).0 in
        elim (dec_lt k b) [
          | yes y ↦ by_last (λ h t s. omega (arith, s)) (λ s t. omega (arith, s))
          | no m ↦ elim (dec_lt b k) [
            | yes y ↦ let u = past k y h in absurd (omega zmach)
            | no w ↦ let same : k ≡ b = omega arith in by_last (λ h t s. omega (arith, s)) (λ s q. absurd (false≢true (sym (q (omega arith)) ∙ rw same at (le-le_z v))))
          ]
        ]

    above_low : (k : ℕ) → a ≤ k → k < n → low <ℤ (row k).up
    above_low k l h = elim (dec_lt a k) [
      | yes y ↦ let u = above_at rows low (omega arith) in let v = order-at x f zero_row a k y h in let w = (row_at x f zero_row k h).wide in omega zmach
      | no m ↦ let same : a ≡ k = omega arith in rw same at (above_at rows low (omega arith))
    ]

    below-high : (k : ℕ) → k < e → (row k).low ≤ℤ high
    below-high k l = elim (dec_lt k b) [
      | yes y ↦ let u = above_before rows high k y in let w = (row_at x f zero_row k (omega (arith, above-le rows high))).wide in omega zmach
      | no m ↦ by_last (λ h t s. let same : b ≡ k = omega (arith, s) in subst (λ i. (row i).low ≤ℤ high) same (le_z-true t)) (λ s t. absurd (omega (arith, s)))
    ]

    row-met : (k : ℕ) → a ≤ k → k < e → met (low, high) (row k) ≡ true
    row-met k l h = of-both (le-le_z (below-high k h)) (lt-lt_z (above_low k l (omega (arith, e-le))))

    -- ---- the span

    end_is : end_of b (row (b - 1)) ≡ F b
    end_is = elim (dec_lt 0 b) [
      | yes h ↦ let s : suc (b - 1) ≡ b = omega arith in let l : b - 1 < n = omega (arith, above-le rows high) in
          rw (ne_eqb b 0 (λ q. omega arith), first-at x f zero_row (b - 1) l) (sym (rw s at (F-more (b - 1) l)))
      | no m ↦ none_before b (row (b - 1)) (omega arith)
    ]

    to_is : end_of b (row (b - 1)) + reached_runs (row b) high ≡ F e
    to_is = by_last (λ h t s. rw (s, t, end_is) (sym (F-more b h)))
        (λ s t. rw (s, end_is) (elim (dec_lt b n) [ yes h ↦ rw (t h) (omega arith) | no m ↦ let z = none-reached (row b) high (List·get_d-eq-default rows zero_row (omega arith)) in omega (arith, z) ]))

    abbrev admitted : ℕ → Bool
    admitted j = stands_met x (low, high) j

    found : (j : ℕ) → admitted j ≡ true → Stands j a e e-le (above-le rows low)
    found j t =
        let p = some-place (λ r. met (low, high) r && stands x r j) zero_row rows t in
        let h = both _ _ p.passes in
        record { at = p.at; low = met-low p.at p.inside h.0; high = met-high p.at p.inside h.0; is = h.1 }

    shown : (j : ℕ) → Stands j a e e-le (above-le rows low) → admitted j ≡ true
    shown j s = place-some (λ r. met (low, high) r && stands x r j) zero_row rows s.at (omega (arith, s.high, e-le)) (of-both (row-met s.at s.low s.high) s.is)

    pub span-met : (j : ℕ) → let s = met_span rows low high in any (in_run j) (take (s.to - s.from) (drop s.from x.runs)) ≡ stands_met x (low, high) j
    unfolding met_span span_of any
    span-met j = by-test (ltb a n)
        (λ t. rw (t, to_is, first-at x f zero_row a (ltb-true a n t)) (same_test (any (in_run j) (stretch j a e e-le (above-le rows low))) (admitted j) (λ h. shown j (out j a e e-le (above-le rows low) h)) (λ h. into j a e e-le (above-le rows low) (found j h))))
        (λ t. let z : F e - F e ≡ 0 = omega arith in
        rw (t, to_is, z) (same_test false (admitted j) (λ h. absurd (false≢true h)) (λ h. let s = found j h in absurd (omega (arith, s.low, s.high, e-le, ltb-false a n t)))))

    pub span-inside : (met_span rows low high).to ≤ length x.runs
    unfolding met_span span_of
    span-inside = rw to_is (F-inside e e-le)

    pub span-few : ((met_span rows low high).from ≤ nat_abs x.windows) × ((met_span rows low high).to ≤ nat_abs x.windows)
    unfolding met_span span_of
    span-few = (
      by-test _ (λ t. rw (t, first-at x f zero_row a (ltb-true a n t)) (F-few a (above-le rows low))) (λ t. rw (t, to_is) (F-few e e-le)),
      rw to_is (F-few e e-le),
    )

  -- ---- a range whose ends are clamped meets the same rows

  clamp-met : (range : ℤ × ℤ) (r : Row) → GoodRow x r → met (clamp_of range.0, clamp_of range.1) r ≡ met range r
  clamp-met range r g = rw (clamp-le (row-end _ g.low_end.limited) range.1, clamp-lt (row-end r.up g.up-end.limited) range.0)

  pub clamp-stands : (range : ℤ × ℤ) (j : ℕ) → stands_met x (clamp_of range.0, clamp_of range.1) j ≡ stands_met x range j
  clamp-stands range j =
      any-cong (λ r. met (clamp_of _, clamp_of _) r && stands x r j) (λ r. met range r && stands x r j) rows
      (λ r m. rw (clamp-met range r (all-mem (GoodRow x) rows (each_row x f) m)))

  -- ---- the upper ends of the rows ascend

  pub climbs : Climbs rows (length rows)
  climbs = record {
    within = omega arith;
    up = λ i k l h. elim (dec_lt i k) [
      | yes y ↦ let u = order-at x f zero_row i k y h in let w = (row_at x f zero_row k h).wide in omega zmach
      | no m ↦ let same : i ≡ k = omega arith in rw same (omega zmach)
    ];
  }
