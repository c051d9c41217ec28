-- Laws of specs/Tally.
use Rattle.meaning_numbers.specs.Sum.{bit}
use Rattle.meaning_numbers.proofs.Prelude.{◌≡◌, sym, ap, ◌∙◌, Bool, true, false, List, ℕ, suc, ◌+◌, ◌-◌, ◌*◌, ◌<◌, ◌≤◌, arith, dec_lt, leb, length, get_or, set, get_or-set_same, get_or-set_other, leb-true, leb-false, eqb-true, eqb-false, eq-eqb, ne_eqb, by-test}
use Rattle.meaning_rows.specs.Runs.{before, run_count}
use Rattle.meaning_rows.proofs.{Runs.before-none, Runs.before_more, Columns.run_count-none, Parts.run-count, Parts.stay-runs}
use Rattle.sums_slide.specs.Change.{RowRun}
use Rattle.sums_count.specs.Tally.{Rising, is_row, Counted}

-- wherever k stands among the first n numbers, it is one of the size places from lo on
pub record Sought (t : List ℕ) (n k lo size : ℕ) : Type 0 where
  pub fits : lo + size ≤ n
  pub place : (i : ℕ) → i < n → get_or t i 0 ≡ k → (lo ≤ i) × (i < lo + size)

-- window j, if there is one, begins a run
pub record Fresh (row : ℕ → ℕ) (n j : ℕ) : Type 0 where
  pub cut : j < n → before (is_row row (row j)) j ≡ false

pub rising_le : {t : List ℕ} {n : ℕ} → Rising t n → (i m : ℕ) → i < n → m < n → get_or t m 0 ≤ get_or t i 0 → m ≤ i
rising_le {t} {n} r i m a b h = elim (dec_lt i m) [ yes l ↦ absurd (omega (arith, r.up i m l b)) | no f ↦ omega arith ]

pub rising-gt : {t : List ℕ} {n : ℕ} → Rising t n → (i m : ℕ) → i < n → m < n → get_or t i 0 < get_or t m 0 → i < m
rising-gt {t} {n} r i m a b h = elim (dec_lt i m) [
  | yes l ↦ l
  | no f ↦ elim (dec_lt m i) [ yes l ↦ absurd (omega (arith, r.up m i l a)) | no g ↦ let e : i ≡ m = omega arith in absurd (omega (arith, ap (λ x. get_or t x 0) e)) ]
]

-- a half, or nothing
pub half-or-none : (half b : ℕ) (t : Bool) → b ≡ bit t → half * b ≤ half
unfolding bit
half-or-none half b true e = rw e (omega arith)
half-or-none half b false e = rw e (omega arith)

-- one number asked leaves the half that it is in
pub sought-half : {t : List ℕ} {n k lo size half b : ℕ} → Rising t n → half + half ≤ size → half < size → b ≡ bit (leb (get_or t (lo + half) 0) k) → Sought t n k lo size → Sought t n k (lo + half * b) (size - half)
unfolding bit
sought-half {t} {n} {k} {lo} {size} {half} {b} r two less e s = by-test _
    (λ y. let one : b ≡ 1 = rw y at e in let q : lo + half * b ≡ lo + half = rw one (omega arith) in let u = leb-true _ k y in
    rw q (record { fits = omega arith; place = λ i l h. (rising_le r i _ l (omega arith) (omega arith), omega (arith, (s.place i l h).1)) }))
    (λ y. let none : b ≡ 0 = rw y at e in let q : lo + half * b ≡ lo = rw none (omega arith) in let u = leb-false (get_or t (lo + half) 0) k y in
    rw q (record { fits = omega arith; place = λ i l h. ((s.place i l h).0, omega (arith, rising-gt r i (lo + half) l (omega (arith, s.fits)) (omega arith))) }))

pub fresh_start : (row : ℕ → ℕ) (n : ℕ) → Fresh row n 0
fresh_start row n = record { cut = λ l. before-none _ }

module _ (row : ℕ → ℕ) (n from r : ℕ) (h : RowRun row n from r) where
  pub fresh-next : Fresh row n r
  unfolding is_row
  fresh-next = record {
    cut = λ l. let e : r ≡ (r - 1) + 1 = omega arith in
        rw e (before_more _ (r - 1) ∙ ne_eqb _ _
        (λ q. h.other l (ap row e ∙ sym q ∙ h.same (r - 1) (omega arith) (omega arith))));
  }

  abbrev more : ℕ
  more = r - from - 1

  all_of : r ≡ from + suc more
  all_of = omega arith

  pub run-mine : Fresh row n from → run_count (is_row row (row from)) r ≡ run_count (is_row row (row from)) from + 1
  unfolding is_row
  run-mine f = rw all_of (run-count _ from more (f.cut (omega arith))
      (λ j a l. eq-eqb (row j) _ (h.same j (omega arith) a)))

  pub run-other : (k : ℕ) → (row from ≡ k → ⊥) → run_count (is_row row k) r ≡ run_count (is_row row k) from
  unfolding is_row
  run-other k f = rw all_of (ap length (stay-runs _ from _ (λ j a l. ne_eqb (row j) k (λ e. f (sym (h.same j (omega arith) a) ∙ e)))))

  pub counted-run : {t counts : List ℕ} → Fresh row n from → Rising t (length t) → (i : ℕ) → i < length t → i < length counts → get_or t i 0 ≡ row from
      → Counted row from t counts → Counted row r t (set counts i (get_or counts i 0 + 1))
  counted-run {t} {counts} f rising i a b e c = record {
    count = λ k l. by-test _
        (λ q. rw (eqb-true k i q) (get_or-set_same counts i _ 0 b ∙ rw (e, run-mine f, c.count i a, e)))
        (λ q. let s = eqb-false k i q in
        get_or-set_other counts i k _ 0 s ∙ c.count k l
        ∙ sym (run-other _ (λ d. s (apart k i l a (sym d ∙ sym e)))));
  }
    where
      apart : (k i : ℕ) → k < length t → i < length t → get_or t k 0 ≡ get_or t i 0 → k ≡ i
      apart k i l a d = omega (arith, rising_le rising i k a l (omega arith), rising_le rising k i l a (omega arith))

pub counted_start : (row : ℕ → ℕ) (t counts : List ℕ) → ((x : ℕ) → get_or counts x 0 ≡ 0) → Counted row 0 t counts
counted_start row t counts z = record { count = λ i l. z i ∙ sym (run_count-none _) }
