-- Laws of specs/Ranges.
use Rattle.meaning_numbers.proofs.Prelude.{◌≡◌, refl, sym, ◌∙◌, Bool, true, false, List, ℕ, zero, suc, ◌<◌, ◌≤◌, arith, dec_lt, eqb, ℤ, pos, negsuc, get_or, le_z, ◌≤ℤ◌, ◌<ℤ◌, ≤ℤ_refl, eqb-true, eqb-false, eq-eqb, Rep, zarith, f-gt, le_z-true, by-test, clash}
use Rattle.meaning_rows.specs.{declared.Row.Row, Range.inside}
use Rattle.meaning_rows.proofs.Range.{le-le_z, lt-le_z, inside-yes, is-inside}
use Rattle.rows_records.specs.Records.{zero_row}
use Rattle.sums_slide.specs.{Levels.within, Ends.raised_end, Change.Change, Change.Stop, Change.RowRun}
use Rattle.sums_slide.proofs.EndsLaws.{within-is}
use Rattle.sums_count.specs.Tally.{is_row}
use Rattle.rows_find.specs.Search.{Climbs, Found}
use Rattle.build_names.specs.Ranges.{Limited, first_not, ends_by, place_in, row_in, Ranged}

-- ---- the first that does not pass

pub first-le : (p : ℕ → Bool) (n : ℕ) → first_not p n ≤ n
unfolding first_not
first-le p zero = omega arith
first-le p (suc n) = by-test (p 0) (λ t. rw t (omega (arith, first-le (λ i. p (suc i)) n))) (λ f. rw f (omega arith))

pub first_passes : (p : ℕ → Bool) (n i : ℕ) → i < first_not p n → p i ≡ true
unfolding first_not
first_passes p zero i l = absurd (omega arith)
first_passes p (suc n) zero l = by-test (p 0) (λ t. t) (λ f. let m : 0 < 0 = rw f at l in absurd (omega arith))
first_passes p (suc n) (suc i) l = by-test (p 0)
    (λ t. let m : suc i < suc (first_not (λ k. p (suc k)) n) = rw t at l in first_passes (λ k. p (suc k)) n i (omega arith))
    (λ f. let m : suc i < 0 = rw f at l in absurd (omega arith))

pub first-fails : (p : ℕ → Bool) (n : ℕ) → first_not p n < n → p (first_not p n) ≡ false
unfolding first_not
first-fails p zero l = absurd (omega arith)
first-fails p (suc n) l = by-test (p 0)
    (λ t. let m : suc (first_not (λ k. p (suc k)) n) < suc n = rw t at l in rw t (first-fails (λ k. p (suc k)) n (omega arith)))
    (λ f. rw f f)

pub first-unique : (p : ℕ → Bool) (n k : ℕ) → k ≤ n → ((i : ℕ) → i < k → p i ≡ true) → (k < n → p k ≡ false) → k ≡ first_not p n
first-unique p n k b passes fails = elim (dec_lt k (first_not p n)) [
  | yes l ↦ clash (first_passes p n k l) (fails (omega (arith, first-le p n)))
  | no f ↦ elim (dec_lt (first_not p n) k) [
    | yes l ↦ clash (passes (first_not p n) l) (first-fails p n (omega arith))
    | no h ↦ omega arith
  ]
]

-- ---- what is found

pub no-le_z : {a b : ℤ} → le_z a b ≡ false → b <ℤ a
no-le_z {a} {b} h = omega (zarith, f-gt a b h)

pub found-place : (rows : List Row) (n : ℕ) (z : ℤ) (k : ℕ) → Found rows n z k → k ≡ place_in rows n z
unfolding place_in ends_by
found-place rows n z k f = first-unique (ends_by rows z) n k f.within (λ i l. le-le_z (f.before i l)) (λ l. lt-le_z (f.at l))

module _ (sum : ℕ → ℤ) (n : ℕ) (rows : List Row) (count : ℕ) (r : Ranged sum n rows count) where
  abbrev row : ℕ → ℕ
  row = row_in rows count sum

  pub range-climbs : Climbs rows count
  range-climbs = record {
    within = r.within-rows;
    up = λ i j l b. elim (dec_lt i j) [
      | yes h ↦ let a = r.order i j h b in let c = r.wide j b in omega zarith
      | no f ↦ let e : i ≡ j = omega arith in rw e (≤ℤ_refl _)
    ];
  }

  -- the row's upper end is above the sum, and no end before it
  below_up : (j : ℕ) → j < n → sum j <ℤ (get_or rows (row j) zero_row).up
  unfolding row_in place_in ends_by
  below_up j l = no-le_z (first-fails (ends_by rows (sum j)) count (r.home j l))

  above-others : (j i : ℕ) → i < row j → (get_or rows i zero_row).up ≤ℤ sum j
  unfolding row_in place_in ends_by
  above-others j i l = le_z-true (first_passes (ends_by rows (sum j)) count i l)

  -- row i holds the windows whose row is i
  pub held-row : (i j : ℕ) → i < count → j < n → inside (get_or rows i zero_row).low (get_or rows i zero_row).up (sum j) ≡ is_row row i j
  unfolding is_row
  held-row i j b l = by-test (eqb (row j) i)
      (λ t. let e = eqb-true (row j) i t in rw (t, ← e) (inside-yes _ _ (sum j) (r.holds j l) (below_up j l)))
      (λ f. let q : (row j ≡ i) → ⊥ = eqb-false (row j) i f in rw f (by-test (inside (get_or rows i zero_row).low (get_or rows i zero_row).up (sum j))
      (λ t. let k = is-inside _ _ (sum j) t in absurd (elim (dec_lt i (row j)) [
        | yes h ↦ let a = above-others j i h in omega zarith
        | no h ↦ let c : row j < i = elim (dec_lt (row j) i) [ yes m ↦ m | no m ↦ absurd (q (omega arith)) ] in
            let a = r.order (row j) i c b in let d = below_up j l in omega zarith
      ]))
      (λ t. t)))

-- ---- raised

-- what `raise_end` asks of an end
pub limited-asks : {x : ℤ} → Limited x → (negsuc 999999999 ≤ℤ x) × (x ≤ℤ pos 1000000000)
limited-asks h = (omega zarith, omega zarith)

-- a run of raised sums in the range of its row is a run of the row's windows
pub stop-run : (sum : ℕ → ℤ) (lv : ℕ → ℕ) (k n : ℕ) (rows : List Row) (count : ℕ) → Ranged sum n rows count → ((j : ℕ) → Rep (sum j) (lv j) k) → (from r z : ℕ) → from < n
    → Stop lv n (raised_end k (get_or rows (row_in rows count sum from) zero_row).low) (raised_end k (get_or rows (row_in rows count sum from) zero_row).up) from r z → RowRun (row_in rows count sum) n from r
unfolding is_row
stop-run sum lv k n rows count h lv-is from r z less s = record {
  ahead = elim (dec_lt from r) [
    | yes l ↦ l
    | no f ↦ let e : r ≡ from = omega arith in clash (mine from less ∙ eq-eqb (row from) (row from) refl) (rw e at (c.other (omega arith)))
  ];
  below = c.below;
  same = λ j a b. eqb-true (row j) (row from) (sym (mine j (omega arith)) ∙ c.same j a b);
  other = λ l e. clash (mine r l ∙ eq-eqb (row r) (row from) e) (c.other l);
}
  where
    row : ℕ → ℕ
    row = row_in rows count sum

    c : Change (λ j. within (raised_end k (get_or rows (row_in rows count sum from) zero_row).low) (raised_end k (get_or rows (row_in rows count sum from) zero_row).up) (lv j)) from n r
    c = s.change

    mine : (j : ℕ) → j < n → within (raised_end k (get_or rows (row_in rows count sum from) zero_row).low) (raised_end k (get_or rows (row_in rows count sum from) zero_row).up) (lv j) ≡ eqb (row_in rows count sum j) (row_in rows count sum from)
    mine j l = within-is (get_or rows (row_in rows count sum from) zero_row).low (get_or rows (row_in rows count sum from) zero_row).up (lv-is j) ∙ held-row sum n rows count h (row_in rows count sum from) j (h.home from less) l
