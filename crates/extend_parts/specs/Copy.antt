-- One column of the old run buffer copied to the parts of the rows: what a turn writes, and the column after some rows.
use Rattle.std.specs.Prelude.{ℕ, zero, suc, ◌+◌, ◌-◌, ◌<◌, ◌≤◌, ltb, length, get_or, set, take, drop, cond, List, ◌++◌}
use Rattle.std.proofs.Math.Seq.{paste}
use Rattle.std.specs.Int.Signed.{le_z}
use Rattle.meaning_rows.specs.declared.Row.{Row}
use Rattle.rows_records.specs.Records.{zero_row}
use Rattle.extend_weave.specs.Turn.{end_row}

-- how many old runs a row has, where o is the next old row
unfoldable pub part_size : Row → Row → ℕ
part_size o r = cond (le_z o.low r.low) o.runs 0

-- a part of `size` entries, with n numbers at its front, and their number at its end while it is not full
unfoldable pub written : ℕ → ℕ → List ℕ → List ℕ → List ℕ
written n size numbers part = cond (ltb n size) (set (paste part 0 numbers n) (size - 1) n) (paste part 0 numbers n)

-- the column after a row
unfoldable pub part_copied : Row → Row → List ℕ → List ℕ → List ℕ
part_copied o r from to = take r.first to ++ written (part_size o r) r.runs (drop o.first from) (drop r.first to)

pub record CopyRoom (o r : Row) (from to : ℕ) : Type 0 where
  pub source : o.first + part_size o r ≤ from
  pub begins : o.first ≤ from
  pub fits : part_size o r ≤ r.runs
  pub room : r.first + r.runs ≤ to

unfoldable pub old_passed : ℕ → Row → Row → ℕ
old_passed a o r = cond (le_z o.low r.low) (a + 1) a

-- how many old rows stand among the first i rows
unfoldable pub passed_to : List Row → List Row → ℕ → ℕ
passed_to old rows zero = 0
passed_to old rows (suc i) = old_passed (passed_to old rows i) (get_or old (passed_to old rows i) end_row) (get_or rows i zero_row)

-- the next old row, where row i is due
abbrev pub next_old : List Row → List Row → ℕ → Row
next_old old rows i = get_or old (passed_to old rows i) end_row

-- the column after the first i rows
unfoldable pub column_to : List Row → List ℕ → List Row → ℕ → List ℕ → List ℕ
column_to old from rows zero to = to
column_to old from rows (suc i) to = part_copied (next_old old rows i) (get_or rows i zero_row) from (column_to old from rows i to)

pub record Copyable (old rows : List Row) (count from to : ℕ) : Type 0 where
  pub in_rows : count ≤ length rows
  pub in-old : (i : ℕ) → i ≤ count → passed_to old rows i ≤ length old
  pub room : (i : ℕ) → i < count → CopyRoom (next_old old rows i) (get_or rows i zero_row) from to
