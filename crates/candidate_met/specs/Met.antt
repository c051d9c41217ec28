-- The stretch of the run buffer that has the runs of the rows which a range meets, as code finds it.
use Rattle.std.specs.Prelude.{ℕ, suc, ◌+◌, ◌-◌, eqb, ltb, ℤ, pos, negsuc, length, get_or, cond, List, [], ◌∷◌}
use Rattle.std.specs.Int.Signed.{le_z, lt_z}
use Rattle.meaning_rows.specs.declared.Row.{Row}
use Rattle.rows_records.specs.Records.{zero_row}
use Rattle.candidate_met.specs.declared.Span.{Span}
pub use Rattle.rows_find.specs.Search.{Climbs}

-- an end of a range, from -4,000,001 to 4,000,001: one outside the limits of row ends
unfoldable pub clamp_of : ℤ → ℤ
clamp_of z = cond (lt_z z (negsuc 4000000)) (negsuc 4000000) (cond (lt_z (pos 4000001) z) (pos 4000001) z)

-- the place of the first row whose upper end is above z, or how many rows there are
unfoldable pub first_above : List Row → ℤ → ℕ
first_above [] z = 0
first_above (r ∷ l) z = cond (le_z r.up z) (suc (first_above l z)) 0

-- where the runs of the first k rows end, of the row before row k
abbrev pub end_of : ℕ → Row → ℕ
end_of k r = cond (eqb k 0) 0 (r.first + r.runs)

-- how many runs a row has that begins at or below `high`; 0 for another
abbrev pub reached_runs : Row → ℤ → ℕ
reached_runs r high = cond (le_z r.low high) r.runs 0

-- the runs from row a up to row b, of n rows, with those of row b where it begins at or below `high`
unfoldable pub span_of : ℕ → ℕ → ℕ → Row → Row → Row → ℤ → Span
span_of n a b first last edge high =
    let to = end_of b last + reached_runs edge high in
    record { from = cond (ltb a n) first.first to; to = to }

-- the runs of the rows that the range from `low` to `high` meets
unfoldable pub met_span : List Row → ℤ → ℤ → Span
met_span rows low high =
    let a = first_above rows low in
    let b = first_above rows high in
    span_of (length rows) a b (get_or rows a zero_row) (get_or rows (b - 1) zero_row) (get_or rows b zero_row) high
