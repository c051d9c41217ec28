-- What is packed out of the table of a series and the sums of its counts is the records of its build without merging (`built-records`), in front of what was there.
use Rattle.meaning_numbers.specs.Sum.{Σℕ}
use Rattle.meaning_numbers.proofs.Prelude.{◌≡◌, refl, sym, ap, ◌∙◌, List, [], ◌∷◌, ◌++◌, map, List-as-Memᴰ as Mem, ℕ, zero, suc, ◌+◌, ◌-◌, ◌*◌, ◌<◌, ◌≤◌, arith, dec_lt, div-mul-le_self, ℤ, pos, ◌-ℤ◌, length, get_or, take, drop, length-append, length-drop, length-map, List·get_d-append, ext_get_or, get_or-append-add, get_or-drop, get_or-set_same, get_or-set_other, eqb-true, eqb-false, ne_eqb, rep_pos, rep-sub, rep_mul, rep_add, rep-eq, by-test}
use Rattle.meaning_numbers.proofs.{Sum.Σℕ-none, Sum.Σℕ-more, Sum.Σℕ-same, Member.mem-at}
use Rattle.meaning_curves.specs.Curve.{window_sum}
use Rattle.meaning_rows.specs.{declared.Row.Row, Range.inside, Runs.runs, Runs.run_count, Index.RangeRow, Index.records, Index.all_runs, Build.SetRow, Build.row_at, Build.filed, Build.entry, Build.with_runs, Build.built_rows}
use Rattle.meaning_rows.proofs.{Laid.length-records, LaidAt.records-at, LaidAt.runs-total, Build.numbers-length, Build.merged-none, Build.built-runs}
use Rattle.rows_records.specs.Records.{zero_row}
use Rattle.sums_slide.specs.{Table.table, Levels.level, Levels.row_of, Levels.windows_of, Levels.Lent, Levels.level-small}
use Rattle.sums_slide.proofs.Marks.{yes-met}
use Rattle.sums_count.specs.{Tally.is_row, Tally.Counted, Numbers.lowered}
use Rattle.sums_count.proofs.{Rows.front_at, Numbers.table-only, Numbers.table-numbers, Numbers.row-runs}
use Rattle.rows_pack.specs.Packed.{total, Summed, start_of, row_from, Packable, packed}
use Rattle.rows_pack.proofs.Packed.{packed_none, packed_more, length-packed}

-- ---- packed, by place

pub packed-at : (numbers ends : List ℕ) (d bias n : ℕ) (rows : List Row) → n ≤ length rows → (i : ℕ) → i < n → get_or (packed numbers ends d bias n rows) i zero_row ≡ row_from numbers ends d bias i
packed-at numbers ends d bias zero rows h i l = absurd (omega arith)
packed-at numbers ends d bias (suc n) rows h i l =
    let s : suc n ≡ n + 1 = omega arith in
    let p = packed numbers ends d bias n rows in
    rw (s, packed_more numbers ends d bias n rows) (by-test _
    (λ t. let q = eqb-true i n t in rw q (get_or-set_same p n _ zero_row (omega (arith, length-packed numbers ends d bias n rows))))
    (λ t. let q = eqb-false i n t in get_or-set_other p n i _ zero_row q ∙ packed-at numbers ends d bias n rows (omega arith) i (omega arith)))

pub packed-past : (numbers ends : List ℕ) (d bias n : ℕ) (rows : List Row) (i : ℕ) → n ≤ i → get_or (packed numbers ends d bias n rows) i zero_row ≡ get_or rows i zero_row
packed-past numbers ends d bias zero rows i l = rw (packed_none numbers ends d bias rows)
packed-past numbers ends d bias (suc n) rows i l =
    let s : suc n ≡ n + 1 = omega arith in
    rw (s, packed_more numbers ends d bias n rows) (get_or-set_other (packed numbers ends d bias n rows) n i (row_from numbers ends d bias n) zero_row (λ e. omega arith) ∙ packed-past numbers ends d bias n rows i (omega arith))

-- what stands behind a front part
past : (l rows : List Row) (n i : ℕ) → length l ≡ n → i ≡ n + (i - n) → get_or rows i zero_row ≡ get_or (l ++ drop n rows) i zero_row
past l rows n i long q =
    let e : length l + (i - n) ≡ i = omega arith in
    ap (λ x. get_or rows x zero_row) q ∙ sym (get_or-drop n rows (i - n) zero_row) ∙ sym (get_or-append-add l _ (i - n) zero_row) ∙ ap (λ x. get_or (l ++ drop n rows) x zero_row) e

-- ---- the build's records

map-three : (f : SetRow → RangeRow) (g : ℤ → SetRow) (h : ℕ → ℤ) (t : List ℕ) → map f (map g (map h t)) ≡ map (λ k. f (g (h k))) t
map-three f g h [] = refl
map-three f g h (x ∷ t) = rw (map-three f g h t)

-- where a part begins: at the sum of the counts before
pub start_is : {n : ℕ} {counts ends : List ℕ} → Summed n counts ends → (i : ℕ) → i < n → start_of ends i ≡ total counts i
unfolding start_of
start_is {n} {counts} {ends} s zero h = sym (Σℕ-none (λ k. get_or counts k 0))
start_is {n} {counts} {ends} s (suc i) h =
    let e : suc i - 1 ≡ i = omega arith in
    let q : i + 1 ≡ suc i = omega arith in
    rw (ne_eqb (suc i) 0 (λ z. omega arith), e, s.end i (omega arith), q)

module _ {s : List ℤ} {w e : ℕ} (d b : ℕ) (one : 0 < d) (bias : 10000 * w + e ≡ b * d) (h : Lent s w e) where
  -- row number k's row with its runs
  unfoldable row : ℕ → RangeRow
  row k = with_runs (windows_of s w) (row_at (window_sum s w) d (lowered b k))

  built-is : built_rows (window_sum s w) d 0 (windows_of s w) ≡ map row (table s w e d)
  unfolding built_rows filed row
  built-is =
      rw (merged-none _ _, ← table-numbers d b one bias h)
      (map-three (with_runs _) (row_at _ d) (lowered b) (table s w e d))

  -- a row number of the table is that of a window
  small_row : (k : ℕ) → Mem k (table s w e d) → d ≤ 1000000 → k * d + d ≤ 1000000000
  unfolding row_of
  small_row k m most =
      let q = yes-met _ _ k (table-only d b one bias h k m) in
      rw (← q.is) (omega (arith, div-mul-le_self (level s w e q.at) d, level-small q.at h))

  size_is : (k : ℕ) → length (row k).runs ≡ run_count (is_row (row_of (level s w e) d) k) (windows_of s w)
  unfolding row with_runs row_at
  size_is k =
      length-map (runs (λ j. inside _ _ _) _) entry
      ∙ sym (ap length (row-runs d b one bias h k _))

  low-is : (k : ℕ) → pos (k * d) -ℤ pos (10000 * w + e) ≡ (row k).low
  unfolding row with_runs row_at lowered
  low-is k = rep-eq (rep-sub (rep_pos (k * d)) (rep_pos (10000 * w + e))) (rep_mul (rep-sub (rep_pos k) (rep_pos b)) (rep_pos d)) (omega arith)

  up_is : (k : ℕ) → pos (k * d + d) -ℤ pos (10000 * w + e) ≡ (row k).up
  unfolding row with_runs row_at lowered
  up_is k = rep-eq (rep-sub (rep_pos _) (rep_pos (10000 * w + e))) (rep_mul (rep_add (rep-sub (rep_pos k) (rep_pos b)) (rep_pos 1)) (rep_pos d)) (omega arith)

  -- at most as many rows as windows, and as many runs
  pub table_fits : length (table s w e d) ≤ windows_of s w
  table_fits = omega (arith, length-map (table s w e d) (lowered b), ap length (table-numbers d b one bias h), numbers-length (window_sum s w) d (windows_of s w))

  pub counts-fit : {counts : List ℕ} → Counted (row_of (level s w e) d) (windows_of s w) (table s w e d) counts → total counts (length (table s w e d)) ≤ windows_of s w
  counts-fit {counts} c =
      let same = Σℕ-same _ (λ x. get_or counts x 0) (λ x. length (row _).runs) (λ x l. c.count x l ∙ sym (size_is _)) in
      omega (arith, same, runs-total 0 row (table s w e d), ap (λ l. length (all_runs l)) built-is, built-runs (window_sum s w) d (windows_of s w) one 0)

  -- what is packed of the table can be made
  pub table-packable : {numbers counts ends : List ℕ} → take (length (table s w e d)) numbers ≡ table s w e d → length (table s w e d) ≤ length numbers → length (table s w e d) ≤ length ends
      → Summed (length (table s w e d)) counts ends → d ≤ 1000000 → Packable numbers ends d (10000 * w + e) (length (table s w e d))
  table-packable {numbers} {counts} {ends} front a z m most = record {
    row = λ i l. record {
      in-numbers = omega arith;
      in-ends = omega arith;
      small = rw (front_at numbers _ _ front refl i l) (small_row _ (mem-at 0 _ i l) most);
      low-bias = omega arith;
      order = omega (arith, m.end i l, Σℕ-more i (λ k. get_or counts k 0), start_is m i l);
    };
  }

  module _ (numbers counts ends : List ℕ) (front : take (length (table s w e d)) numbers ≡ table s w e d)
      (c : Counted (row_of (level s w e) d) (windows_of s w) (table s w e d) counts) (m : Summed (length (table s w e d)) counts ends) where
    abbrev t : List ℕ
    t = table s w e d

    count-is : (i : ℕ) → i < length t → get_or counts i 0 ≡ length (row (get_or t i 0)).runs
    count-is i l = c.count i l ∙ sym (size_is _)

    first-is : (i : ℕ) → i < length t → start_of ends i ≡ 0 + Σℕ i (λ x. length (row (get_or t x 0)).runs)
    first-is i l =
        let z : Σℕ i (λ x. length (row (get_or t x 0)).runs) ≡ 0 + Σℕ i (λ x. length (row (get_or t x 0)).runs) = omega arith in
        start_is m i l ∙ Σℕ-same i (λ x. get_or counts x 0) (λ x. length (row _).runs) (λ x b. count-is x (omega arith)) ∙ z

    runs-is : (i : ℕ) → i < length t → get_or ends i 0 - start_of ends i ≡ length (row (get_or t i 0)).runs
    runs-is i l = omega (arith, m.end i l, Σℕ-more i (λ k. get_or counts k 0), start_is m i l, count-is i l)

    row_same : (i : ℕ) → i < length t → row_from numbers ends d (10000 * w + e) i ≡ get_or (records 0 (map row t)) i zero_row
    row_same i l =
        let k = get_or t i 0 in
        let f = front_at numbers t _ front refl i l in
        let low = ap (λ (x : ℕ). pos (x * d) -ℤ pos (10000 * w + e)) f ∙ low-is k in
        let up = ap (λ (x : ℕ). pos (x * d + d) -ℤ pos (10000 * w + e)) f ∙ up_is k in
        let first = first-is i l in
        (λ j. record { low = low j; up = up j; first = first j; runs = (runs-is i l) j }) ∙ sym (records-at 0 row zero_row 0 t i l)

    pub built-records : (rows : List Row) → length t ≤ length rows
        → packed numbers ends d (10000 * w + e) (length t) rows ≡ records 0 (built_rows (window_sum s w) d 0 (windows_of s w)) ++ drop (length t) rows
    built-records rows fits =
        let n = length t in
        let l = records 0 _ in
        let long = length-records 0 _ ∙ length-map t row in
        rw built-is (ext_get_or zero_row _ _
        (omega (arith, length-packed numbers ends d (10000 * w + e) n rows, length-append l (drop n rows), length-drop n rows, long))
        (λ i a. elim (dec_lt i n) [
          | yes b ↦ packed-at numbers ends d _ n rows fits i b ∙ row_same i b ∙ sym (List·get_d-append l _ zero_row i (omega arith))
          | no f ↦ let q : i ≡ n + (i - n) = omega arith in
              packed-past numbers ends d _ n rows i (omega arith) ∙ past l rows n i long q
        ]))
