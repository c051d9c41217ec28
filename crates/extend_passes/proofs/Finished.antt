-- What stands in the index_buffers once all windows are filed is the extended index (`finished`).
use Rattle.meaning_numbers.proofs.Prelude.{◌≡◌, sym, ap, ◌∙◌, Bool, List, map, ℕ, ◌≤◌, arith, ℤ, nat_abs, length, get_or, length-map}
use Rattle.meaning_curves.specs.Curve.{window_sum, window_count}
use Rattle.meaning_rows.specs.{declared.Row.Row, Index.Index, Index.RangeRow, Index.records, Index.all_runs, Build.with_runs, Extend.extended}
use Rattle.meaning_rows.proofs.{Judge.WellFormed, Extend.Extendable, Woven.woven_rows, Woven.grown_runs, LaidAt.column-at}
use Rattle.meaning_entries.specs.Buffers.{filled, index_in, lefts, rights, index_buffers}
use Rattle.meaning_entries.proofs.Filled.{filled_is, lefts-entry, rights-entry}
use Rattle.rows_records.specs.Records.{zero_row}
use Rattle.build_fill.specs.Pass.{parts_total, PassMade}
use Rattle.extend_parts.proofs.OldRuns.{row_has}
use Rattle.extend_runs.proofs.Rowed.{rows_are, size_is, start_is, total-is}
use Rattle.extend_passes.specs.Finished.{HoldsExtended}

-- a column that is 0 behind all parts, as long as another
pub record Behind (total : ℕ) (old new : List ℕ) : Type 0 where
  pub long : length new ≡ length old
  pub zero : (y : ℕ) → total ≤ y → get_or new y 0 ≡ 0

module _ (x : Index) (s : List ℤ) (g : WellFormed x) (long : Extendable x s) where
  abbrev w : ℕ
  w = nat_abs x.window

  abbrev n : ℕ
  n = window_count (length s) w

  abbrev made : List Row
  made = woven_rows x s g long

  abbrev size : ℕ
  size = length made

  abbrev P : ℕ → ℕ → Bool
  P = row_has x s g long

  abbrev G : Row → RangeRow
  G = grown_runs x (window_sum s w) (nat_abs x.windows) n

  abbrev total : ℕ
  total = parts_total size n P

  module _ (rows₀ : List Row) (left₀ right₀ : List ℕ) (in_left : n ≤ length left₀) (in_right : n ≤ length right₀) {left right left' right' : List ℕ} (bl : Behind total left₀ left) (br : Behind total right₀ right)
      (f : PassMade P s w size left right left' right') where
    left_is : left' ≡ filled 0 (lefts (all_runs (map G made))) left₀
    unfolding with_runs
    left_is =
        let m = length-map (all_runs (map G made)) (λ e. nat_abs e.0) in
        let t = total-is x s g long in
        filled_is _ left₀ left' (f.long-left ∙ bl.long) (omega (arith, m, t))
        (λ y b. column-at zero_row G (λ e. nat_abs e.0) left' made
        (λ i u a c. rw (start_is x s g long i, lefts-entry _) (f.parts.left_is i u a (omega (arith, size_is x s g long i)))) y (omega (arith, m)))
        (λ y b. f.past-left y (omega (arith, m, t)) ∙ bl.zero y (omega (arith, m, t)))

    right_is : right' ≡ filled 0 (rights (all_runs (map G made))) right₀
    unfolding with_runs
    right_is =
        let m = length-map (all_runs (map G made)) (λ e. nat_abs e.1) in
        let t = total-is x s g long in
        filled_is _ right₀ right' (f.long-right ∙ br.long) (omega (arith, m, t))
        (λ y b. column-at zero_row G (λ e. nat_abs e.1) right' made
        (λ i u a c. rw (start_is x s g long i, rights-entry _) (f.parts.right_is i u a (omega (arith, size_is x s g long i)))) y (omega (arith, m)))
        (λ y b. f.past-right y (omega (arith, m, t)) ∙ br.zero y (omega (arith, m, t)))

    pub finished : {rows : List Row} → rows ≡ filled zero_row (records 0 (map G made)) rows₀ → HoldsExtended x s (index_buffers rows₀ left₀ right₀) (index_buffers rows left' right')
    unfolding index_in extended
    finished {rows} e =
        let q = sym (rows_are x s g long) in
        let a = e ∙ ap (λ l. filled zero_row (records 0 l) rows₀) q in
        let b = left_is ∙ ap (λ l. filled 0 (lefts (all_runs l)) left₀) q in
        λ i. record { rows = a i; left = b i; right = (right_is ∙ ap (λ l. filled 0 (rights (all_runs l)) right₀) q) i }
