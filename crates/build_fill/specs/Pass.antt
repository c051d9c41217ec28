-- The pass over the windows: rows as records with ranges and parts (`Rowed`), what holds where a turn begins, and a turn over plain variables.
use Rattle.std.specs.Prelude.{ℕ, ◌<◌, ◌≤◌, ℤ, length, get_or, ◌≤ℤ◌, Bool, true, List, ◌≡◌}
use Rattle.meaning_curves.specs.Curve.{window_sum}
use Rattle.meaning_rows.specs.{declared.Row.Row, Range.inside, Runs.run_count}
use Rattle.rows_records.specs.Records.{zero_row}
use Rattle.sums_slide.specs.{declared.Window.Window, Levels.windows_of}
use Rattle.build_parts.specs.Filling.{Filling}
use Rattle.build_fill.specs.Turn.{Small, At}
pub use Rattle.build_parts.specs.Filling.{part_start, parts_total}
pub use Rattle.build_parts.proofs.FillingLaws.{filling-start, parts-laid}

-- window j stands in row `at`
pub record Home (P : ℕ → ℕ → Bool) (n j : ℕ) : Type 0 where
  pub at : ℕ
  pub below : at < n
  pub is : P at j ≡ true

-- the first n records: ranges that ascend and lie apart, parts one after the other, of rows whose windows pass the tests P. From window `from` on a row has the windows whose sums its range holds, and each window has a row
pub record Rowed (P : ℕ → ℕ → Bool) (sum : ℕ → ℤ) (from windows : ℕ) (rows : List Row) (n : ℕ) : Type 0 where
  pub within : n ≤ length rows
  pub small : (i : ℕ) → i < n → Small (get_or rows i zero_row)
  pub apart : (i k : ℕ) → i < k → k < n → (get_or rows i zero_row).up ≤ℤ (get_or rows k zero_row).low
  pub holds : (i j : ℕ) → i < n → from ≤ j → j < windows → P i j ≡ inside (get_or rows i zero_row).low (get_or rows i zero_row).up (sum j)
  pub home : (j : ℕ) → from ≤ j → j < windows → Home P n j
  pub first : (i : ℕ) → i < n → (get_or rows i zero_row).first ≡ part_start n windows P i
  pub runs : (i : ℕ) → i < n → (get_or rows i zero_row).runs ≡ run_count (P i) windows

-- the pass can begin at a place, with what stands in the buffers
pub record Passable (P : ℕ → ℕ → Bool) (s : List ℤ) (w e : ℕ) (from : Window) (rows : List Row) (n : ℕ) (left right : List ℕ) : Type 0 where
  pub place : At s w e from
  pub rowed : Rowed P (window_sum s w) from.offset (windows_of s w) rows n
  pub filling : Filling n (windows_of s w) P left right from.offset left right

-- every window is filed
abbrev pub PassMade : (ℕ → ℕ → Bool) → List ℤ → ℕ → ℕ → List ℕ → List ℕ → List ℕ → List ℕ → Type 0
PassMade P s w n left right left' right' = Filling n (windows_of s w) P left right (windows_of s w) left' right'
