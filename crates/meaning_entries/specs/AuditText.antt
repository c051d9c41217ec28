-- The audit of two texts, as the payout program calls it: index text and series line as bytes, a number as the answer.
use Rattle.std.specs.Prelude.{ℕ, zero, suc, ◌+◌, ◌*◌, ◌/◌, ◌%◌, eqb, ℤ, true, false, List, [], ◌∷◌}
use Rattle.std.specs.Prelude.{None, Some, Ok, Err}
use Rattle.meaning_curves.specs.Limits.{most_values, most_program_values}
use Rattle.meaning_text.specs.{Bytes.newlines, Read.fine, Read.unfit, Read.read_text, Texts.index_form, Texts.series_form}
use Rattle.meaning_entries.specs.{declared.Audited.Audited, Answers.AuditAnswer, Answers.refusal, Refusal.Condition, Refusal.first_refusal, Refusal.unreadable, Audit.AuditCall, Audit.audit_table, Audit.audited, Load.text_index}

-- the series that a line gives; of a line that cannot be read nothing is asked
unfoldable pub text_series : List ℕ → List ℤ
text_series t = elim (read_text series_form t) [ fine v ↦ v | unfit p ↦ [] ]

-- what the two texts ask
abbrev pub text_call : List ℕ → List ℕ → AuditCall
text_call index series = record { series = text_series series; index = text_index index }

-- the refusals, in order: texts are read first; the series line counts as the line after the index text's last
unfoldable pub audit_text_table : List ℕ → List ℕ → List Condition
audit_text_table index series =
    unreadable index_form 0 index
    ∷ unreadable series_form (newlines index) series
    ∷ audit_table most_program_values (text_call index series)

unfoldable pub audit_text_answer : List ℕ → List ℕ → AuditAnswer
audit_text_answer index series = elim (first_refusal (audit_text_table index series)) [ Some r ↦ Err (refusal r) | None ↦ Ok (audited (text_call index series)) ]

-- ---- the number that the entry returns

-- a refusal's number: the remainder by 8 is 3 for a text that cannot be read, with its line as the quotient, and 4 for any other, whose quotient is 32 × place + number
unfoldable pub pack_refusal : ℕ → ℕ → ℕ
pack_refusal n p = elim (eqb n 12) [ true ↦ 8 * p + 3 | false ↦ 8 * (32 * p + n) + 4 ]

-- an answer as a number: the remainder by 8 is 0 for yes, 1 for wrong, 2 for missing
unfoldable pub pack : AuditAnswer → ℕ
pack (Ok Audited.Yes) = 0
pack (Ok (Audited.Wrong row offset)) = 8 * (most_values * row + offset) + 1
pack (Ok (Audited.Missing count)) = 8 * count + 2
pack (Err r) = pack_refusal r.number r.place

-- the answer of a quotient, by the remainder
unfoldable pub unpack_by : ℕ → ℕ → AuditAnswer
unpack_by zero v = Ok Audited.Yes
unpack_by (suc zero) v = Ok (Audited.Wrong (v / most_values) (v % most_values))
unpack_by (suc (suc zero)) v = Ok (Audited.Missing v)
unpack_by (suc (suc (suc zero))) v = Err (refusal (12, v))
unpack_by (suc (suc (suc (suc r)))) v = Err (refusal (v % 32, v / 32))

-- an answer from its number
unfoldable pub unpack : ℕ → AuditAnswer
unpack n = unpack_by (n % 8) (n / 8)

-- the audit of two texts
unfoldable pub audit_text : List ℕ → List ℕ → ℕ
audit_text index series = pack (audit_text_answer index series)
