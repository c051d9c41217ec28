-- Laws of specs/Numbers.
use Rattle.meaning_numbers.proofs.Member.{mem-at, mem-map, map-mem}
use Rattle.meaning_numbers.proofs.Prelude.{◌≡◌, sym, ap, ◌∙◌, subst, ⊎_elim, Bool, true, List, [], ◌∷◌, map, List-as-Memᴰ as Mem, List·Memᴰ·not-nil as not-nil, List·Memᴰ·append-cases as append_cases, List·Memᴰ·eq-of-singleton as only, ℕ, zero, suc, ◌+◌, ◌*◌, ◌<◌, arith, ℤ, pos, length, get_or, ◌<ℤ◌, eq-eqb, ne_eqb, Rep, rep_pos, rep-sub, rep-eq, zarith, z-sub, by-test, clash}
use Rattle.meaning_curves.specs.Curve.{window_sum}
use Rattle.meaning_rows.specs.{Range.row_number, Range.low_of, Range.up_of, Range.inside, Runs.runs, Build.row_numbers}
use Rattle.meaning_rows.proofs.{Range.row-raised, Range.row-unique, Range.in-own, Runs.runs-cong, Build.Above, Build.Sorted, Build.sorted-unique, Build.numbers-sorted, Build.numbers-mem, Build.numbers-occur}
use Rattle.sums_slide.specs.{Levels.level, Levels.row_of, Levels.windows_of, Levels.Lent, Picked.picked, Marks.met, Table.table, Table.top}
use Rattle.sums_slide.proofs.{Levels.level-is, Picked.picked-start, Picked.picked-yes, Picked.picked-no, Marks.yes-met}
use Rattle.sums_count.specs.{Tally.Rising, Tally.is_row, Numbers.lowered}
use Rattle.sums_count.proofs.Rows.{table-rises, table-has}

-- ---- rising numbers, lowered, are sorted

lowered-lt : (b x y : ℕ) → x < y → lowered b x <ℤ lowered b y
unfolding lowered
lowered-lt b x y h = omega (zarith, z-sub (pos x) (pos b), z-sub (pos y) (pos b))

above-all : (b x : ℕ) (l : List ℕ) → ((i : ℕ) → i < length l → x < get_or l i 0) → Above (lowered b x) (map (lowered b) l)
unfolding Above
above-all b x [] h = tt
above-all b x (y ∷ l) h = (lowered-lt b x y (h 0 (omega arith)), above-all b x l (λ i k. h (suc i) (omega arith)))

pub rising-sorted : (b : ℕ) (l : List ℕ) → Rising l (length l) → Sorted (map (lowered b) l)
unfolding Sorted
rising-sorted b [] r = tt
rising-sorted b (x ∷ l) r = (
  above-all b x l (λ i h. r.up 0 (suc i) (omega arith) (omega arith)),
  rising-sorted b l (record { up = λ i k a h. r.up (suc i) (suc k) (omega arith) (omega arith) }),
)

-- ---- what is picked passes

picked-only : (p : ℕ → Bool) (base m k : ℕ) → Mem k (picked p base m) → p k ≡ true
picked-only p base zero k h = absurd (not-nil (subst (Mem k) (picked-start p base) h))
picked-only p base (suc m) k h =
    let s : suc m ≡ m + 1 = omega arith in
    by-test _
    (λ t. ⊎_elim (λ o. picked-only p base m k o) (λ o. ap p (only o) ∙ t) (append_cases _ (subst (Mem k) (ap (picked p base) s ∙ picked-yes p base m t) h)))
    (λ t. picked-only p base m k (subst (Mem k) (ap (picked p base) s ∙ picked-no p base m t) h))

module _ {s : List ℤ} {w e : ℕ} (d b : ℕ) (one : 0 < d) (bias : 10000 * w + e ≡ b * d) (h : Lent s w e) where
  -- the raised row number of a window
  row_is : (j : ℕ) → Rep (row_number d (window_sum s w j)) (row_of (level s w e) d j) b
  unfolding row_of
  row_is j =
      let z : level s w e j + 0 ≡ level s w e j = omega arith in
      rw z at (row-raised _ _ 0 b d (level-is j h) (omega arith) one)

  pub row-lowered : (j : ℕ) → lowered b (row_of (level s w e) d j) ≡ row_number d (window_sum s w j)
  unfolding lowered
  row-lowered j = rep-eq (rep-sub (rep_pos _) (rep_pos b)) (row_is j) (omega arith)

  pub table-only : (k : ℕ) → Mem k (table s w e d) → met (row_of (level s w e) d) (windows_of s w) k ≡ true
  unfolding table
  table-only k m = picked-only _ 0 top k m

  pub table-numbers : map (lowered b) (table s w e d) ≡ row_numbers (window_sum s w) d (windows_of s w)
  table-numbers =
      let sum = window_sum s w in
      let n = windows_of s w in
      let t = table s w e d in
      sorted-unique _ _ (rising-sorted b t (table-rises s w e d)) (numbers-sorted sum d n)
      (λ z m. let i = map-mem _ t m in
      let q = yes-met _ n _ (table-only _ i.is) in
      rw (i.same ∙ ap (lowered b) (sym q.is) ∙ row-lowered q.at) (numbers-mem sum d n q.at q.below))
      (λ z m. let o = numbers-occur sum d n z m in
      let q = table-has d h o.at o.below in
      subst (λ x. Mem x (map (lowered b) t)) (ap (lowered b) q.is ∙ row-lowered o.at ∙ o.is) (mem-map (lowered b) (mem-at 0 t q.at q.below)))

  back : (k j : ℕ) → lowered b k ≡ row_number d (window_sum s w j) → row_of (level s w e) d j ≡ k
  unfolding lowered
  back k j q = let r = row_is j in omega (zarith, z-sub (pos k) (pos b))

  -- a window has a number exactly if its sum lies in the row's range
  same_row : (k j : ℕ) → is_row (row_of (level s w e) d) k j ≡ inside (low_of d (lowered b k)) (up_of d (lowered b k)) (window_sum s w j)
  unfolding is_row
  same_row k j = by-test _
      (λ t. eq-eqb _ k (back k j (row-unique d _ _ one t)) ∙ sym t)
      (λ t. ne_eqb _ k (λ q. clash (subst (λ x. inside (low_of d x) (up_of d x) (window_sum s w j) ≡ true) (sym (ap (lowered b) (sym q) ∙ row-lowered j)) (in-own d (window_sum s w j) one)) t) ∙ sym t)

  pub row-runs : (k n : ℕ) → runs (is_row (row_of (level s w e) d) k) n ≡ runs (λ j. inside (low_of d (lowered b k)) (up_of d (lowered b k)) (window_sum s w j)) n
  row-runs k n = runs-cong _ _ n (λ j l. same_row k j)
