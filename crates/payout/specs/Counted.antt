-- The audit of an index against a series of n values that stand first in a buffer; the program's limit on n decides before anything else.
use Rattle.std.specs.Prelude.{ℕ, ℤ, take, cond, List, Err}
use Rattle.meaning_curves.specs.Limits.{most_program_values, length_in}
use Rattle.meaning_rows.specs.Index.{Index}
use Rattle.meaning_entries.specs.{Answers.AuditAnswer, Answers.refusal, Audit.audit_answer}

unfoldable pub counted_answer : Index → List ℤ → ℕ → AuditAnswer
counted_answer x values n = cond (length_in most_program_values n) (audit_answer (record { series = take n values; index = x })) (Err (refusal (1, 0)))
