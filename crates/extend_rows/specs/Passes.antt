-- What counting an extension's runs and laying its rows out ask and leave.
use Rattle.std.specs.Prelude.{ℕ, ◌+◌, ◌<◌, ◌≤◌, ℤ, length, List, ◌≡◌}
use Rattle.meaning_rows.specs.declared.Row.{Row}
use Rattle.sums_slide.specs.Levels.{level, windows_of}
use Rattle.rows_pack.specs.Packed.{Summed}
use Rattle.extend_count.specs.{Rank.rank, Count.Countable, Count.Counted, Listed.Listable}
use Rattle.extend_parts.specs.Lay.{laid_to, EndsRoom}
use Rattle.extend_rows.specs.Steps.{joins_of, SumAsked}
unfoldable pub use Rattle.extend_count.specs.Listed.{listed}
pub use Rattle.extend_count.specs.Listed.{end_of, size_of}
unfoldable pub use Rattle.extend_new.specs.New.{less_join}

-- the rows can be listed, and then the new windows counted
pub record CountAsked (s : List ℤ) (w e bias old : ℕ) (rows : List Row) (n : ℕ) (left right : List ℕ) : Type 0 where
  pub lists : Listable rows n bias (length right) (length left)
  pub counts : Countable s w e old (listed (end_of rows bias) n right) n (listed (size_of rows) n left)

-- the runs are counted in the left column, beside the ends in the right one; i is the row of the first new window
pub record CountedAs (s : List ℤ) (w e bias old : ℕ) (rows : List Row) (n : ℕ) (left right : List ℕ) (i : ℕ) (left' right' : List ℕ) : Type 0 where
  pub ends : right' ≡ listed (end_of rows bias) n right
  pub counted : Counted s w e old right' n (listed (size_of rows) n left) (windows_of s w) left'
  pub first : old < windows_of s w → i ≡ rank right' n (level s w e old)
  pub none : windows_of s w ≤ old → i ≡ 0

-- the counts can be added up, and then the rows laid out
pub record LayAsked (s : List ℤ) (w old : ℕ) (row : Row) (olds : List ℕ) (i : ℕ) (rows : List Row) (n : ℕ) (left : List ℕ) : Type 0 where
  pub window : w ≤ length s
  pub fits : row.first + row.runs ≤ length olds
  pub sums : SumAsked (joins_of s w old row olds) i left n
  pub lays : (ends : List ℕ) → length ends ≡ length left → Summed n (less_join (joins_of s w old row olds) i left) ends → (n ≤ length rows) × ((k : ℕ) → k < n → EndsRoom ends k)

-- the rows are laid out
pub record LaidBy (s : List ℤ) (w old : ℕ) (row : Row) (olds : List ℕ) (i : ℕ) (rows : List Row) (n : ℕ) (left : List ℕ) (rows' : List Row) : Type 0 where
  pub ends : List ℕ
  pub long : length ends ≡ length left
  pub summed : Summed n (less_join (joins_of s w old row olds) i left) ends
  pub is : rows' ≡ laid_to ends n rows
