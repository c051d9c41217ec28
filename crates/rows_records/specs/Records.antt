-- The records that a chunk holds.
use Rattle.std.specs.Prelude.{ℕ, zero, suc, ◌+◌, ◌-◌, min, get_or, set, replicate, List}
use Rattle.meaning_rows.specs.declared.Row.{Row}
pub use Rattle.meaning_rows.specs.Index.{zero_row}

-- the first n entries of a list, exchanged for the n records that stand from a place on
unfoldable pub copied : List Row → ℕ → ℕ → List Row → List Row
copied rows from zero out = out
copied rows from (suc n) out = set (copied rows from n out) n (get_or rows (from + n) zero_row)

-- how many of `size` records stand from a place on, where there are `count`
abbrev pub count_from : ℕ → ℕ → ℕ → ℕ
count_from count from size = min (count - from) size

-- the 64 records from a place on, past the end the record of zeros
unfoldable pub chunk_of : List Row → ℕ → List Row
chunk_of rows from = copied rows from 64 (replicate 64 zero_row)
