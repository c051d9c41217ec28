-- Row records with their parts, from the ends of the parts.
use Rattle.std.specs.Prelude.{ℕ, zero, suc, ◌-◌, ◌<◌, ◌≤◌, length, get_or, set, List}
use Rattle.meaning_rows.specs.declared.Row.{Row}
use Rattle.rows_records.specs.Records.{zero_row}
use Rattle.rows_pack.specs.Packed.{start_of}

abbrev pub with_part : Row → List ℕ → ℕ → Row
with_part r ends i = record { low = r.low; up = r.up; first = start_of ends i; runs = get_or ends i 0 - start_of ends i }

-- the first n records with their parts
unfoldable pub laid_to : List ℕ → ℕ → List Row → List Row
laid_to ends zero rows = rows
laid_to ends (suc n) rows = set (laid_to ends n rows) n (with_part (get_or (laid_to ends n rows) n zero_row) ends n)

-- part i ends in the slice, and not before it begins
pub record EndsRoom (ends : List ℕ) (i : ℕ) : Type 0 where
  pub within : i < length ends
  pub order : start_of ends i ≤ get_or ends i 0
