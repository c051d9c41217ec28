-- Laws of specs/Count.
use Rattle.meaning_numbers.proofs.Prelude.{◌≡◌, refl, sym, ap, ◌∙◌, subst, true, false, List, ℕ, zero, suc, ◌+◌, ◌-◌, ◌<◌, ◌≤◌, arith, dec_lt, ℤ, length, get_or, set, length-set, get_or-set_same, get_or-set_other, leb-true, ltb-true, le-leb, lt-leb, lt-ltb, eqb-true, eqb-false, ne_eqb, by-test, both, clash}
use Rattle.meaning_rows.specs.Runs.{before, run_count}
use Rattle.meaning_rows.proofs.{Runs.before-none, Runs.before_more, Parts.stay-runs, Columns.run_count-none}
use Rattle.sums_slide.specs.{Levels.level, Levels.windows_of, Levels.within, Change.Stop, Change.RowRun}
use Rattle.sums_count.specs.Tally.{is_row}
use Rattle.sums_count.proofs.Tally.{Fresh, run-mine, run-other}
use Rattle.rows_pack.specs.Packed.{start_of}
use Rattle.extend_count.specs.{Rank.rank, Rank.Climbing, Count.row_from, Count.Counted}
use Rattle.extend_count.proofs.Rank.{rank_is, rank-under, rank-over}

start_first : (ups : List ℕ) → start_of ups 0 ≡ 0
unfolding start_of
start_first ups = refl

start-after : (ups : List ℕ) (i : ℕ) → start_of ups (suc i) ≡ get_or ups i 0
unfolding start_of
start-after ups i = let z : suc i - 1 ≡ i = omega arith in rw (ne_eqb (suc i) 0 (λ q. omega arith), z)

module _ (s : List ℤ) (w e old : ℕ) (ups : List ℕ) (n : ℕ) where
  abbrev row : ℕ → ℕ
  row = row_from s w e old ups n

  pub row_new : (j : ℕ) → old ≤ j → row j ≡ rank ups n (level s w e j)
  unfolding row_from
  row_new j h = rw (le-leb old j h)

  pub row_old : (j : ℕ) → j < old → row j ≡ n
  unfolding row_from
  row_old j h = rw (lt-leb old j h)

  none_old : (i j : ℕ) → i < n → j < old → is_row row i j ≡ false
  unfolding is_row
  none_old i j l h = rw (row_old j h) (ne_eqb n i (λ q. omega arith))

  pub counted-starts : (counts : List ℕ) → Counted s w e old ups n counts old counts
  counted-starts counts = record {
    count = λ i l. let z : 0 + old ≡ old = omega arith in
        let none : run_count (is_row row i) old ≡ 0 = rw z at (ap length (stay-runs _ 0 old (λ j a b. none_old i j l (omega arith))) ∙ run_count-none _) in omega arith;
    long = refl;
  }

  module _ (can : (j : ℕ) → old ≤ j → j < windows_of s w → rank ups n (level s w e j) < n) where
    pub fresh-old : Fresh row (windows_of s w) old
    fresh-old = record { cut = λ l. first old refl _ (rw (row_new old (omega arith)) (can old (omega arith) l)) }
      where
        first : (k : ℕ) → k ≡ old → (i : ℕ) → i < n → before (is_row row i) k ≡ false
        first zero q i h = before-none _
        first (suc k) q i h = let m : suc k ≡ k + 1 = omega arith in rw m (before_more _ k ∙ none_old i k h (omega arith))

    -- a number is of rank i exactly if it lies from where the row before ends up to the row's end
    rank-in : Climbing ups n → (i x : ℕ) → i < n → within (start_of ups i) (get_or ups i 0) x ≡ true → rank ups n x ≡ i
    unfolding within
    rank-in c i x h t =
        let b = both _ _ t in
        let low = leb-true _ x b.0 in
        let up = ltb-true x _ b.1 in
        rank_is ups n x i (omega arith) (λ k l. under c i x k h l low) (λ k l m. omega (arith, c.up i k l m))
      where
        under : Climbing ups n → (i x k : ℕ) → i < n → k < i → start_of ups i ≤ x → get_or ups k 0 ≤ x
        under c zero x k h l low = absurd (omega arith)
        under c (suc i) x k h l low = omega (arith, c.up k i (omega arith) (omega arith), start-after ups i)

    within-own : Climbing ups n → (x : ℕ) → rank ups n x < n → ((i : ℕ) → i < rank ups n x → get_or ups i 0 ≤ x) → x < get_or ups (rank ups n x) 0 → within (start_of ups (rank ups n x)) (get_or ups (rank ups n x) 0) x ≡ true
    unfolding within
    within-own c x h a b = rw (le-leb _ x (low _ h a), lt-ltb x _ b)
      where
        low : (i : ℕ) → i < n → ((k : ℕ) → k < i → get_or ups k 0 ≤ x) → start_of ups i ≤ x
        low zero h a = rw (start_first ups) (omega arith)
        low (suc i) h a = rw (start-after ups i) (a i (omega arith))

    -- the windows from one on whose raised sums lie in its row's range are the run that begins there
    pub next-run : Climbing ups n → {from r z : ℕ} → old ≤ from → from < windows_of s w → Stop (level s w e) (windows_of s w) (start_of ups (row from)) (get_or ups (row from) 0) from r z → RowRun row (windows_of s w) from r
    next-run c {from} {r} {z} h l t =
        let q = row_new from h in
        let here = subst (λ k. k < n) (sym q) (can from h l) in
        let x = level s w e from in
        let own = subst (λ k. within (start_of ups k) (get_or ups k 0) x ≡ true) (sym q) (within-own c x (can from h l) (rank-under c x) (rank-over c x (can from h l))) in
        let d = t.change in
        let ahead : from < r = elim (dec_lt from r) [
          | yes m ↦ m
          | no f ↦ let g : r ≡ from = omega arith in clash own (rw g at (d.other (omega arith)))
        ] in
        record {
          ahead = ahead;
          below = d.below;
          same = λ j a b. row_new j (omega arith) ∙ rank-in c (row from) _ here (d.same j a b);
          other = λ m g.
              let y = level s w e r in
              let in-r = rw (sym (row_new r (omega arith)) ∙ g) at (within-own c y (can r (omega arith) m) (rank-under c y) (rank-over c y (can r (omega arith) m))) in
              clash in-r (d.other m);
        }

-- ---- the counts of one run more

module _ (s : List ℤ) (w e old : ℕ) (ups : List ℕ) (n : ℕ) where
  pub counted-turn : {before counts : List ℕ} {from r : ℕ} → RowRun (row_from s w e old ups n) (windows_of s w) from r → Fresh (row_from s w e old ups n) (windows_of s w) from → row_from s w e old ups n from < n → n ≤ length counts
      → Counted s w e old ups n before from counts → Counted s w e old ups n before r (set counts (row_from s w e old ups n from) (get_or counts (row_from s w e old ups n from) 0 + 1))
  counted-turn {before} {counts} {from} {r} h f l m c =
      let k = row_from s w e old ups n from in
      record {
        count = λ i b. by-test _
            (λ q. rw (eqb-true i k q) (get_or-set_same counts k _ 0 (omega arith) ∙ omega (arith, c.count k l, run-mine _ _ from r h f)))
            (λ q. let g = eqb-false i k q in
            get_or-set_other counts k i _ 0 g ∙ omega (arith, c.count i b, run-other _ _ from r h i (λ d. g (sym d))));
        long = length-set counts k _ ∙ c.long;
      }
