-- The outcome of judging an index, by the meanings: the first bad row, or that there is none, with the run lengths of all rows added up.
use Rattle.std.specs.Prelude.{ℕ, ◌≡◌, refl, None, Some, Ok, Err}
use Rattle.std.specs.declared.{option.Option.Option, result.Result.Result}
use Rattle.meaning_rows.specs.{Index.Index, Judge.length_total, Judge.first_bad_row}

-- what judging says: the total, or the first bad row
abbrev pub Judged : Type 0
Judged = Result ℕ ℕ

-- the first bad row, or else the total
unfoldable pub outcome : Option ℕ → ℕ → Judged
outcome None total = Ok total
outcome (Some k) total = Err k

-- 01, Rows: an index is judged by its first bad row
unfoldable pub judged_of : Index → Judged
judged_of x = outcome (first_bad_row x) (length_total x x.rows)

-- the first bad row, by what judging said
unfoldable pub bad_row : Judged → Option ℕ
bad_row (Ok total) = None
bad_row (Err row) = Some row

-- ---- laws

outcome-row : (o : Option ℕ) (total : ℕ) → bad_row (outcome o total) ≡ o
unfolding bad_row outcome
outcome-row None total = refl
outcome-row (Some k) total = refl

pub bad-row : (x : Index) → bad_row (judged_of x) ≡ first_bad_row x
unfolding judged_of
bad-row x = outcome-row (first_bad_row x) (length_total x x.rows)
