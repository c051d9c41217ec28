-- After both columns of the old run buffer are copied, each row's part holds the runs of its offsets below the old window count, and while it is not full its last right end has their number (`old-parts`, `old-cursors`). So the filling of the new
-- windows can go on from there.
use Rattle.meaning_numbers.specs.Order.{within}
use Rattle.meaning_numbers.proofs.Member.{All, all-mem, mem-all, mem-at}
use Rattle.meaning_numbers.proofs.Prelude.{◌≡◌, refl, sym, ap, ◌∙◌, Bool, List, [], ◌∷◌, ℕ, zero, suc, ◌+◌, ◌-◌, ◌<◌, ◌≤◌, arith, dec_lt, ℤ, pos, length, get_or, ◌≤ℤ◌, ◌<ℤ◌, le_z, zarith, le_z-true, both}
use Rattle.meaning_curves.specs.{Limits.lowest_end}
use Rattle.meaning_rows.specs.{declared.Row.Row, Range.low_of, Runs.runs, Runs.run_count, Index.Index, Index.entries, Build.row_numbers, Extend.grown}
use Rattle.meaning_rows.proofs.Grown.{Begun, begun-woven, old-runs, old-count, left_at, right-at, length-entries}
use Rattle.meaning_rows.proofs.{Judge.GoodEnd, Judge.GoodRow, Judge.WellFormed, Judge.each_row, Judge.ranges-ascend, Build.numbers-sorted, Build.numbers-occur, Sums.ends-good, Columns.lefts, Columns.rights, Columns.run_count-mono, Parts.Parts, Cursors.Cursors, Extend.Extendable, Woven.new_row, Woven.all-woven, Woven.extending}
use Rattle.rows_records.specs.Records.{zero_row}
use Rattle.extend_weave.specs.Turn.{end_low, end_row}
use Rattle.extend_parts.specs.Copy.{part_size, next_old, passed_to, column_to, Copyable}
use Rattle.extend_parts.proofs.Columns.{column-front, column-cursor}
use Rattle.extend_parts.proofs.OldPassed.{PassedRow, own, new, passed-in, passed-row, passed-size}

end_below : (d : ℕ) (z : ℤ) → GoodEnd d z → z <ℤ end_low
unfolding within
end_below d z e = let h : z ≤ℤ pos 4000000 = le_z-true (both (le_z lowest_end z) (le_z z (pos 4000000)) e.limited).1 in omega zarith

module _ (x : Index) (s : List ℤ) (g : WellFormed x) (long : Extendable x s) where
  open extending x s g long use {w, d, old, n, sum, made, at}

  abbrev numbers : List ℤ
  numbers = row_numbers (λ j. sum (old + j)) d (n - old)

  -- the offsets of row i
  abbrev pub row_has : ℕ → ℕ → Bool
  row_has i = (grown x sum old (at i)).has

  one : 0 < d
  one = omega arith

  new-low : (k : ℤ) → GoodEnd d (low_of d k) → (new_row d k).low <ℤ end_low
  unfolding new_row
  new-low k e = end_below d (low_of d k) e

  small : All (λ r. r.low <ℤ end_low) made
  small = all-woven d (λ r. r.low <ℤ end_low) x.rows numbers
      (mem-all (λ r. r.low <ℤ end_low) x.rows (λ r m. end_below d r.low (all-mem (GoodRow x) x.rows (each_row x g) m).low_end))
      (λ k m. let o = numbers-occur (λ j. sum (old + j)) d (n - old) k m in
      new-low k (rw o.is at (ends-good s w d (old + o.at) long.values g.head.window.most one g.head.width.most).0))

  begun : (i : ℕ) → i < length made → Begun x (at i)
  begun i l = all-mem (Begun x) made (begun-woven x g d numbers) (mem-at zero_row made i l)

  -- rows with the ranges of the extension's rows, as many runs, and parts that lie apart in a column of `room` entries
  pub record LaidRows (rows : List Row) (room : ℕ) : Type 0 where
    pub within : length made ≤ length rows
    pub low : (i : ℕ) → i < length made → (get_or rows i zero_row).low ≡ (at i).low
    pub size : (i : ℕ) → i < length made → (get_or rows i zero_row).runs ≡ run_count (row_has i) n
    pub apart : (i k : ℕ) → i < k → k < length made → (get_or rows i zero_row).first + (get_or rows i zero_row).runs ≤ (get_or rows k zero_row).first
    pub fits : (i : ℕ) → i < length made → (get_or rows i zero_row).first + (get_or rows i zero_row).runs ≤ room

  module _ (left right : List ℕ) (is : x.runs ≡ entries left right) (rows : List Row) (room : ℕ) (laid : LaidRows rows room) where
    abbrev next : ℕ → Row
    next i = next_old x.rows rows i

    passes : (i : ℕ) → i < length made → PassedRow (next i) (at i)
    passes i l = passed-row d one lowest_end x.rows (ranges-ascend x g) numbers (numbers-sorted (λ j. sum (old + j)) d (n - old)) small rows laid.low i l

    -- as many old runs are copied as the row has
    copied-size : (i : ℕ) → i < length made → part_size (next i) (get_or rows i zero_row) ≡ (at i).runs
    copied-size i l = passed-size d one lowest_end x.rows (ranges-ascend x g) numbers (numbers-sorted (λ j. sum (old + j)) d (n - old)) small rows laid.low i l

    shorter : (length x.runs ≤ length left) × (length x.runs ≤ length right)
    shorter = let e = ap length is in (omega (arith, length-entries left right), omega (arith, length-entries left right))

    next-begins : (i : ℕ) → (next i).first ≤ length x.runs
    next-begins i = elim (dec_lt (passed_to x.rows rows i) (length x.rows)) [
      | yes l ↦ omega (arith, (all-mem (GoodRow x) x.rows (each_row x g) (mem-at end_row x.rows _ l)).fits)
      | no f ↦ rw (past x.rows (passed_to x.rows rows i) (omega arith)) (omega arith)
    ]
      where
        past : (l : List Row) (k : ℕ) → length l ≤ k → get_or l k end_row ≡ end_row
        past [] k h = refl
        past (r ∷ l) zero h = absurd (omega arith)
        past (r ∷ l) (suc k) h = past l k (omega arith)

    source : (i : ℕ) → i < length made → (next i).first + (at i).runs ≤ length x.runs
    source i l = by (passes i l)
      where
        by : PassedRow (next i) (at i) → (next i).first + (at i).runs ≤ length x.runs
        by (own e) = omega (arith, (begun i l).fits, ap (λ (r : Row). r.first) e)
        by (new a b c) = omega (arith, next-begins i)

    -- the copying can be done, of a column that is as long as the run buffer
    pub copyable : (from to : ℕ) → length x.runs ≤ from → room ≤ to → Copyable x.rows rows (length made) from to
    copyable from to a b = record {
      in_rows = laid.within;
      in-old = λ i h. passed-in d one lowest_end x.rows (ranges-ascend x g) numbers (numbers-sorted (λ j. sum (old + j)) d (n - old)) small rows laid.low i h;
      room = λ i l. record {
        source = omega (arith, source i l, copied-size i l);
        begins = omega (arith, next-begins i);
        fits = omega (arith, copied-size i l, laid.size i l, old-count x sum (at i) (begun i l), run_count-mono (row_has i) old n long.longer);
        room = omega (arith, laid.fits i l);
      };
    }

    module _ (to to' : List ℕ) (a : room ≤ length to) (b : room ≤ length to') where
      abbrev L : List ℕ
      L = column_to x.rows left rows (length made) to

      abbrev R : List ℕ
      R = column_to x.rows right rows (length made) to'

      abbrev first : ℕ → ℕ
      first i = (get_or rows i zero_row).first

      -- the next old row's part is the row's own
      own-left : (i t : ℕ) → i < length made → t < (at i).runs → get_or left ((next i).first + t) 0 ≡ get_or (lefts (runs (row_has i) old)) t 0
      own-left i t l h = by (passes i l)
        where
          by : PassedRow (next i) (at i) → get_or left ((next i).first + t) 0 ≡ get_or (lefts (runs (row_has i) old)) t 0
          by (own e) = ap (λ (r : Row). get_or left (r.first + t) 0) e ∙ left_at x left right is (at i) (begun i l) t h ∙ rw (sym (old-runs x sum (at i) (begun i l)))
          by (new p q c) = absurd (omega arith)

      own-right : (i t : ℕ) → i < length made → t < (at i).runs → get_or right ((next i).first + t) 0 ≡ get_or (rights (runs (row_has i) old)) t 0
      own-right i t l h = by (passes i l)
        where
          by : PassedRow (next i) (at i) → get_or right ((next i).first + t) 0 ≡ get_or (rights (runs (row_has i) old)) t 0
          by (own e) = ap (λ (r : Row). get_or right (r.first + t) 0) e ∙ right-at x left right is (at i) (begun i l) t h ∙ rw (sym (old-runs x sum (at i) (begun i l)))
          by (new p q c) = absurd (omega arith)

      pub old-parts : Parts (length made) n row_has first old L R
      old-parts = record {
        left_is = λ i t l h. let m : t < (at i).runs = omega (arith, old-count x sum (at i) (begun i l)) in
            column-front x.rows left rows (length made) to (copyable (length left) (length to) shorter.0 a) laid.apart i t l (omega (arith, copied-size i l)) ∙ own-left i t l m;
        right_is = λ i t l h. let m : t < (at i).runs = omega (arith, old-count x sum (at i) (begun i l)) in
            column-front x.rows right rows (length made) to' (copyable (length right) (length to') shorter.1 b) laid.apart i t l (omega (arith, copied-size i l)) ∙ own-right i t l m;
      }

      pub old-cursors : Cursors (length made) n row_has first old R
      old-cursors = record {
        cursor = λ i l h.
            let c = old-count x sum (at i) (begun i l) in
            ap (λ (k : ℕ). get_or R (first i + k - 1) 0) (sym (laid.size i l))
            ∙ column-cursor x.rows right rows (length made) to' (copyable (length right) (length to') shorter.1 b) laid.apart i l (omega (arith, copied-size i l, laid.size i l))
            ∙ copied-size i l ∙ sym c;
      }
