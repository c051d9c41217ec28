-- What refuses an extension (`plan_of`), over what code has: the index is told by its head and by what judging said of it.
use Rattle.std.specs.Prelude.{ℕ, ℤ, length, List, [], ◌∷◌, ◌++◌}
use Rattle.std.specs.declared.result.Result.{Result}
use Rattle.meaning_curves.specs.Limits.{most_values}
use Rattle.meaning_rows.specs.{declared.Head.Head, Index.lent}
use Rattle.meaning_entries.specs.{declared.Refusal.Refusal, Refusal.series_lines, Extend.grow_lines}
use Rattle.rows_judge.specs.Judged.{Judged}
use Rattle.refusals.specs.Refusal.{verdict, judged_line}

unfoldable pub plan_of : List ℤ → Head → Judged → ℕ → ℕ → Result (Unit {0}) Refusal
plan_of s h j rows runs = verdict (series_lines most_values s ++ (judged_line j ∷ grow_lines (length s) (lent h [] [] []) rows runs))
