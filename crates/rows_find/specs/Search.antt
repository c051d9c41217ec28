-- What a search over row records finds.
use Rattle.std.specs.Prelude.{ℕ, ◌<◌, ◌≤◌, ℤ, get_or, length, ◌≤ℤ◌, ◌<ℤ◌, List, ◌≡◌}
use Rattle.meaning_rows.specs.declared.Row.{Row}
use Rattle.rows_records.specs.Records.{zero_row}

-- the upper ends of the first n ranges ascend
pub record Climbs (rows : List Row) (n : ℕ) : Type 0 where
  pub within : n ≤ length rows
  pub up : (i j : ℕ) → i ≤ j → j < n → (get_or rows i zero_row).up ≤ℤ (get_or rows j zero_row).up

-- k is the first of the first n rows whose upper end is above the sum, or n
pub record Found (rows : List Row) (n : ℕ) (sum : ℤ) (k : ℕ) : Type 0 where
  pub within : k ≤ n
  pub before : (i : ℕ) → i < k → (get_or rows i zero_row).up ≤ℤ sum
  pub at : k < n → sum <ℤ (get_or rows k zero_row).up

-- one of the first n rows has its upper end above the sum
pub record Reached (rows : List Row) (n : ℕ) (sum : ℤ) : Type 0 where
  pub at : ℕ
  pub below : at < n
  pub above : sum <ℤ (get_or rows at zero_row).up

-- r is the first of the first n rows whose upper end is above the sum
pub record FoundRow (rows : List Row) (n : ℕ) (sum : ℤ) (r : Row) : Type 0 where
  pub place : ℕ
  pub below : place < n
  pub found : Found rows n sum place
  pub is : r ≡ get_or rows place zero_row
