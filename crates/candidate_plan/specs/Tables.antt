-- The refusals of a search but 24, in order, over what code has: the index is told by its head and by what judging said of it.
use Rattle.std.specs.Prelude.{ℕ, ℤ, pos, length, List, [], ◌∷◌, ◌++◌}
use Rattle.std.specs.declared.result.Result.{Result}
use Rattle.meaning_curves.specs.Limits.{most_values}
use Rattle.meaning_rows.specs.{declared.Head.Head, Index.lent}
use Rattle.meaning_filter.specs.{declared.Ask.Ask, declared.Pick.Pick}
use Rattle.meaning_entries.specs.{Refusal.Condition, Refusal.count_outside, Refusal.flat_query, Search.lent_ask, Search.value_lines, Search.limit_lines, Search.window_lines}
use Rattle.meaning_entries.specs.declared.Refusal.{Refusal}
use Rattle.rows_judge.specs.Judged.{Judged}
use Rattle.refusals.specs.Refusal.{verdict, judged_line}

-- 1 and 2
unfoldable pub values_table : List ℤ → List ℤ → List Condition
values_table s q = value_lines most_values s q

-- 6 to 10, and 30
unfoldable pub numbers_table : List ℤ → List ℤ → ℕ → Ask → List Condition
numbers_table s q w a = limit_lines (length s) (length q) (pos w) (lent_ask a) ++ (count_outside a.pick ∷ [])

-- everything about the input, 11 at the end
unfoldable pub input_table : List ℤ → List ℤ → ℕ → Ask → List Condition
input_table s q w a = values_table s q ++ (numbers_table s q w a ++ (flat_query a.kind q ∷ []))

-- 22 and 23
unfoldable pub windows_table : List ℤ → Head → Pick → ℕ → ℕ → ℕ → List Condition
windows_table s h pick list candidates scratch = window_lines (length s) (lent h [] [] []) pick list candidates scratch

-- 20, 22 and 23
unfoldable pub state_table : List ℤ → Head → Judged → Pick → ℕ → ℕ → ℕ → List Condition
state_table s h j pick list candidates scratch = judged_line j ∷ windows_table s h pick list candidates scratch

-- the plan: what refuses before the search looks
unfoldable pub plan_of : List ℤ → Head → Judged → Ask → List ℤ → ℕ → ℕ → ℕ → Result (Unit {0}) Refusal
plan_of s h j a q list candidates scratch = verdict (input_table s q h.window a ++ state_table s h j a.pick list candidates scratch)
