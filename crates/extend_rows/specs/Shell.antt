-- What weaving an extension's rows asks and leaves.
use Rattle.std.specs.Prelude.{ℕ, ◌+◌, ◌-◌, ◌*◌, ◌≤◌, ℤ, nat_abs, length, List, ◌≡◌}
use Rattle.meaning_curves.specs.Curve.{window_sum, window_count}
use Rattle.meaning_rows.specs.{declared.Row.Row, Index.Index, Build.row_numbers}
use Rattle.meaning_rows.proofs.{Judge.WellFormed, Extend.Extendable, Woven.woven}
use Rattle.meaning_entries.specs.Buffers.{filled}
use Rattle.rows_records.specs.Records.{zero_row}
use Rattle.sums_slide.specs.Levels.{Lent, windows_of}

-- the records of the rows of an extension, with their old parts
abbrev pub made_rows : Index → List ℤ → List Row
made_rows x s =
    let w = nat_abs x.window in
    let d = nat_abs x.width in
    let old = nat_abs x.windows in
    woven d x.rows (row_numbers (λ j. window_sum s w (old + j)) d (window_count (length s) w - old))

-- an index that can be extended over the series, its numbers, and what sums are raised by
pub record Extending (x : Index) (s : List ℤ) (w e d b old : ℕ) (rows : List Row) : Type 0 where
  pub formed : WellFormed x
  pub longer : Extendable x s
  pub lent : Lent s (nat_abs x.window) e
  pub bias : 10000 * nat_abs x.window + e ≡ b * nat_abs x.width
  pub window : w ≡ nat_abs x.window
  pub width : d ≡ nat_abs x.width
  pub windows : old ≡ nat_abs x.windows
  pub rows_are : rows ≡ x.rows

-- and room for its windows
pub record WeaveAsked (x : Index) (s : List ℤ) (w e d b old : ℕ) (from rows : List Row) (left : List ℕ) : Type 0 where
  pub can : Extending x s w e d b old from
  pub in_rows : windows_of s w ≤ length rows
  pub in_left : windows_of s w ≤ length left

-- the records stand in the buffer, zeros behind them
abbrev pub WovenAs : Index → List ℤ → List Row → List Row → ℕ → Type 0
WovenAs x s old new n = (n ≡ length (made_rows x s)) × (new ≡ filled zero_row (made_rows x s) old)
