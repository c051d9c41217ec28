-- Rows as ranges of lent records: the row of a window is the first whose upper end is above the window's sum (`row_in`). Where the ranges ascend and hold every window, row i holds exactly the windows
-- whose row is i, and a run of raised sums in its range is a run of its windows.
use Rattle.std.specs.Prelude.{ℕ, zero, suc, ◌<◌, ◌≤◌, ℤ, length, get_or, ◌≤ℤ◌, ◌<ℤ◌, Bool, cond, List, ◌≡◌}
use Rattle.std.specs.Int.Signed.{le_z}
use Rattle.meaning_numbers.proofs.Rep.{up, dn}
use Rattle.meaning_rows.specs.{declared.Row.Row, Runs.run_count}
use Rattle.rows_records.specs.Records.{zero_row}
use Rattle.sums_count.specs.Tally.{is_row}
use Rattle.build_merge.specs.Merging.{part_at}

-- an end of a range that can be raised
pub record Limited (x : ℤ) : Type 0 where
  pub least : dn x ≤ 1000000000
  pub most : up x ≤ 1000000000

-- both ends of a range
pub record LimitedRow (r : Row) : Type 0 where
  pub low_end : Limited r.low
  pub up-end : Limited r.up

-- the first of the numbers below n that does not pass, or n
unfoldable pub first_not : (ℕ → Bool) → ℕ → ℕ
first_not p zero = 0
first_not p (suc n) = cond (p 0) (suc (first_not (λ i. p (suc i)) n)) 0

-- the upper end of row i is not above z
unfoldable pub ends_by : List Row → ℤ → ℕ → Bool
ends_by rows z i = le_z (get_or rows i zero_row).up z

-- the first of n rows whose upper end is above z, or n
unfoldable pub place_in : List Row → ℕ → ℤ → ℕ
place_in rows n z = first_not (ends_by rows z) n

-- the row of window j
unfoldable pub row_in : List Row → ℕ → (ℕ → ℤ) → ℕ → ℕ
row_in rows count sum j = place_in rows count (sum j)

-- the ranges of the first `count` records ascend, can be raised, and hold every window
pub record Ranged (sum : ℕ → ℤ) (n : ℕ) (rows : List Row) (count : ℕ) : Type 0 where
  pub within-rows : count ≤ length rows
  pub wide : (i : ℕ) → i < count → (get_or rows i zero_row).low <ℤ (get_or rows i zero_row).up
  pub order : (i k : ℕ) → i < k → k < count → (get_or rows i zero_row).up ≤ℤ (get_or rows k zero_row).low
  pub limited : (i : ℕ) → i < count → LimitedRow (get_or rows i zero_row)
  pub home : (j : ℕ) → j < n → row_in rows count sum j < count
  pub holds : (j : ℕ) → j < n → (get_or rows (row_in rows count sum j) zero_row).low ≤ℤ sum j

-- and each row has its part of the run buffer, one behind the other
pub record RangeRows (sum : ℕ → ℤ) (n : ℕ) (rows : List Row) (count : ℕ) : Type 0 where
  pub ranged : Ranged sum n rows count
  pub first-is : (i : ℕ) → i < count → (get_or rows i zero_row).first ≡ part_at (row_in rows count sum) n i
  pub runs-is : (i : ℕ) → i < count → (get_or rows i zero_row).runs ≡ run_count (is_row (row_in rows count sum) i) n
