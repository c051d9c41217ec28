-- What the audit knows before it looks at the rows: what refuses it, or how many windows the runs leave; and what it answers where it ends.
use Rattle.std.specs.Prelude.{ℕ, ◌-◌, ℤ, length, List, [], ◌∷◌, ◌++◌, None, Some, Ok, Err}
use Rattle.std.specs.declared.{option.Option.Option, result.Result.Result}
use Rattle.meaning_curves.specs.Limits.{most_values}
use Rattle.meaning_rows.specs.{declared.Head.Head, Index.lent}
use Rattle.meaning_entries.specs.{declared.Audited.Audited, declared.Refusal.Refusal, Answers.refusal, Refusal.Condition, Refusal.first_refusal, Refusal.series_lines, Refusal.count_lines, Audit.complete}
use Rattle.rows_judge.specs.Judged.{Judged}
use Rattle.refusals.specs.Refusal.{judged_line}

-- the refusals, over what code has: the index is told by its head and by what judging said of it
unfoldable pub table_of : List ℤ → Head → Judged → List Condition
table_of s h j = series_lines most_values s ++ (judged_line j ∷ count_lines (length s) (lent h [] [] []))

-- how many windows the runs leave
abbrev pub left_over : Head → Judged → ℕ
left_over h (Ok total) = h.windows - total
left_over h (Err row) = 0

unfoldable pub plan_of : List ℤ → Head → Judged → Result ℕ Refusal
plan_of s h j = elim (first_refusal (table_of s h j)) [ None ↦ Ok (left_over h j) | Some r ↦ Err (refusal r) ]

unfoldable pub answer_of : ℕ → Option (ℕ × ℕ) → Audited
answer_of lacking None = complete lacking
answer_of lacking (Some p) = Audited.Wrong p.0 p.1
