-- Rows as sets of windows, packed: the first records are theirs, with their parts one after the other.
use Rattle.std.specs.Prelude.{ℕ, ◌≤◌, length, take, List, map, ◌≡◌}
use Rattle.meaning_rows.specs.{declared.Row.Row, Index.records, Build.SetRow, Build.with_runs}

-- the first `count` records are those of the rows of l, whose windows are below n
pub record PackedAs (n : ℕ) (l : List SetRow) (rows : List Row) (count : ℕ) : Type 0 where
  pub many : count ≡ length l
  pub within : count ≤ length rows
  pub front : take count rows ≡ records 0 (map (with_runs n) l)
