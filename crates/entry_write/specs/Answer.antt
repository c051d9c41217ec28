-- What refuses a write, by what judging said, the length of the text and the size of the buffer.
use Rattle.std.specs.Prelude.{ℕ, List, [], ◌∷◌}
use Rattle.meaning_entries.specs.Refusal.{Condition, buffer_short}
use Rattle.rows_judge.specs.Judged.{Judged}
use Rattle.refusals.specs.Refusal.{judged_line}

-- the refusals
unfoldable pub table_of : Judged → ℕ → ℕ → List Condition
table_of j n size = judged_line j ∷ buffer_short size n ∷ []
