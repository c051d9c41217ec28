-- Numbers listed in a slice, one in a turn; the raised upper end of a row, and how many runs it has.
use Rattle.std.specs.Prelude.{ℕ, zero, suc, ◌<◌, ◌≤◌, ℤ, pos, ◌-ℤ◌, length, get_or, set, ◌≤ℤ◌, List}
use Rattle.meaning_rows.specs.declared.Row.{Row}
use Rattle.rows_records.specs.Records.{zero_row}
use Rattle.sums_slide.specs.Ends.{raised_end}

-- the first n numbers
unfoldable pub listed : (ℕ → ℕ) → ℕ → List ℕ → List ℕ
listed f zero l = l
listed f (suc n) l = set (listed f n l) n (f n)

abbrev pub end_of : List Row → ℕ → ℕ → ℕ
end_of rows bias i = raised_end bias (get_or rows i zero_row).up

abbrev pub size_of : List Row → ℕ → ℕ
size_of rows i = (get_or rows i zero_row).runs

-- an end of a range and a bias, in their limits
pub record EndRoom (z : ℤ) (bias : ℕ) : Type 0 where
  pub least : (pos 0 -ℤ pos 4000000) ≤ℤ z
  pub most : z ≤ℤ pos 4000000
  pub small : bias ≤ 1000000000

-- the rows are there, their ends in their limits, and the slices long enough
pub record Listable (rows : List Row) (count bias ups counts : ℕ) : Type 0 where
  pub in_rows : count ≤ length rows
  pub in-ups : count ≤ ups
  pub in-counts : count ≤ counts
  pub ends : (i : ℕ) → i < count → EndRoom (get_or rows i zero_row).up bias
