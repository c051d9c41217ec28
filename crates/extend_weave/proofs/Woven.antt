-- The row numbers of the new windows can be woven among the old rows (`weavable`), and the records made and cleared are the rows of the extension (`woven-rows`, `row_is`).
use Rattle.meaning_numbers.specs.Order.{within}
use Rattle.meaning_numbers.proofs.Member.{all-mem, mem-all, mem-at}
use Rattle.meaning_numbers.proofs.Prelude.{◌≡◌, refl, sym, ap, ◌∙◌, List, ◌++◌, map, ℕ, zero, suc, ◌+◌, ◌-◌, ◌*◌, ◌<◌, ◌≤◌, arith, dec_lt, div-mul-le_self, ltb, ℤ, pos, nat_abs, length, get_or, take, replicate, length-map, length-append, length-replicate, List·get_d-append, get_or-take, get_or-append-add, ◌≤ℤ◌, ◌<ℤ◌, le_z, ltb-true, zarith, le_z-true, by-test, both}
use Rattle.meaning_curves.specs.{Limits.lowest_end, Curve.window_sum}
use Rattle.meaning_rows.specs.{declared.Row.Row, Index.Index}
use Rattle.meaning_rows.proofs.{Judge.GoodEnd, Judge.WellFormed, Judge.each_row, Judge.ranges-ascend, Build.numbers-length, Extend.Extendable, Woven.woven, Woven.woven-most, Columns.get_d_past, Woven.extending}
use Rattle.meaning_entries.specs.Buffers.{filled}
use Rattle.rows_records.specs.Records.{zero_row}
use Rattle.sums_slide.specs.{Table.table, Picked.Appended, Levels.level-small, Levels.row_of, Levels.Lent, Levels.windows_of}
use Rattle.sums_slide.proofs.Marks.{yes-met}
use Rattle.sums_count.specs.{Numbers.lowered, Tally.Rising}
use Rattle.sums_count.proofs.{Numbers.table-only, Rows.table-rises}
use Rattle.extend_new.specs.New.{new_table}
use Rattle.extend_new.proofs.New.{rest-lent, new-numbers}
use Rattle.extend_weave.specs.{Turn.end_low, Weave.numbers_of, Weave.Weavable, Weave.Made}

end_below : (d : ℕ) (z : ℤ) → GoodEnd d z → z <ℤ end_low
unfolding within
end_below d z e = let h : z ≤ℤ pos 4000000 = le_z-true (both (le_z lowest_end z) (le_z z (pos 4000000)) e.limited).1 in omega zarith

-- the table of the new windows rises
new-rises : (s : List ℤ) (old w e d : ℕ) → Rising (new_table s old w e d) (length (new_table s old w e d))
unfolding new_table
new-rises s old w e d = by-test (ltb old (windows_of s w)) (λ t. rw t (table-rises _ w e d)) (λ f. rw f (record { up = λ i k a h. absurd (omega arith) }))

row_small : (lv : ℕ → ℕ) (d j k : ℕ) → row_of lv d j ≡ k → lv j ≤ 6120000 → k * d ≤ 1000000000
unfolding row_of
row_small lv d j k e h = rw (← e) (omega (arith, div-mul-le_self (lv j) d))

module _ {s : List ℤ} {w e : ℕ} (d b : ℕ) (one : 0 < d) (bias : 10000 * w + e ≡ b * d) (lent : Lent s w e) where
  table-small : (i : ℕ) → i < length (table s w e d) → get_or (table s w e d) i 0 * d ≤ 1000000000
  table-small i l =
      let m = yes-met _ _ _ (table-only d b one bias lent _ (mem-at 0 _ i l)) in
      row_small _ d m.at _ m.is (level-small m.at lent)

new-small : {s : List ℤ} {w e : ℕ} (old d b : ℕ) → 0 < d → 10000 * w + e ≡ b * d → Lent s w e → (i : ℕ) → i < length (new_table s old w e d) → get_or (new_table s old w e d) i 0 * d ≤ 1000000000
unfolding new_table
new-small {s} {w} {e} old d b one bias lent i = by-test (ltb old (windows_of s w))
    (λ t. rw t (λ l. table-small d b one bias (rest-lent old (ltb-true old _ t) lent) i l))
    (λ f. rw f (λ l. absurd (omega arith)))

module _ (x : Index) (s : List ℤ) (g : WellFormed x) (long : Extendable x s) (e b : ℕ) (lent : Lent s (nat_abs x.window) e) (bias : 10000 * nat_abs x.window + e ≡ b * nat_abs x.width) where
  open extending x s g long use {w, d, old, n, made, size}

  one : 0 < d
  one = omega arith

  -- there is room for the row numbers where there is room for the windows
  pub table_fits : length (new_table s old w e d) ≤ n
  table_fits = omega (arith, length-map (new_table s old w e d) (lowered b), ap length (new-numbers old d b one bias lent), numbers-length (λ j. window_sum s w (old + j)) d (n - old))

  module _ {k : ℕ} {left₀ left : List ℕ} (a : Appended (new_table s old w e d) 0 k left₀ left) (fits : k ≤ length left) where
    many : k ≡ length (new_table s old w e d)
    many = omega arith

    number_is : (i : ℕ) → i < k → get_or left i 0 ≡ get_or (new_table s old w e d) i 0
    number_is i l = sym (get_or-take k left i 0 l) ∙ rw a.front

    made-is : woven d x.rows (numbers_of left k b) ≡ made
    made-is = ap (woven d _) (ap (map _) a.front ∙ new-numbers old d b one bias lent)

    pub weavable : (room : ℕ) → n ≤ room → Weavable x.rows left k d b room
    weavable room h = record {
      width = (g.head.width.least, g.head.width.most);
      cells = record {
        fits = fits;
        small = λ i l. rw (number_is i l) (new-small old d b one bias lent i (omega arith));
        low-base = omega arith;
      };
      rising = record { up = λ i j l m. rw (number_is i (omega arith), number_is j m) ((new-rises s old w e d).up i j l (omega arith)) };
      ascending = ranges-ascend x g;
      below = mem-all (λ r. r.up <ℤ end_low) _ (λ r m. end_below d r.up (all-mem _ _ (each_row x g) m).up-end);
      room = rw made-is (omega (arith, woven-most x s g long));
    }

    module _ {count : ℕ} {rows₀ rows : List Row} (m : Made x.rows left k d b rows₀ count rows) where
      pub count-is : count ≡ size
      count-is = m.count-is ∙ ap length made-is

      pub woven-rows : take count rows ++ replicate (length rows - count) zero_row ≡ filled zero_row made rows₀
      unfolding filled
      woven-rows = ap (λ l. l ++ replicate (length rows - count) zero_row) (m.rows_are ∙ made-is) ∙ (λ i. made ++ replicate (m.long i - count-is i) zero_row)

  -- row i of the records, whatever i
  pub row_is : (rows₀ : List Row) (i : ℕ) → get_or (filled zero_row made rows₀) i zero_row ≡ get_or made i zero_row
  unfolding filled
  row_is rows₀ i =
      let r = replicate (length rows₀ - size) zero_row in
      elim (dec_lt i size) [
        | yes l ↦ List·get_d-append made r zero_row i l
        | no f ↦ let q : size + (i - size) ≡ i = omega arith in
            ap (λ z. get_or (made ++ r) z zero_row) (sym q) ∙ get_or-append-add made r _ zero_row ∙ none (length rows₀ - size) (i - size) ∙ sym (get_d_past zero_row made i (omega arith))
      ]
    where
      none : (k i : ℕ) → get_or (replicate k zero_row) i zero_row ≡ zero_row
      none zero i = refl
      none (suc k) zero = refl
      none (suc k) (suc i) = none k i

  pub rows_long : (rows₀ : List Row) → n ≤ length rows₀ → length (filled zero_row made rows₀) ≡ length rows₀
  unfolding filled
  rows_long rows₀ h = let r : List Row = replicate (length rows₀ - size) zero_row in omega (arith, length-append made r, length-replicate {A = Row} (length rows₀ - size) zero_row, woven-most x s g long)
