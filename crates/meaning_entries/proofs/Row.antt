-- Rows of the table of cases that are whole texts: what goes in, and what must come out.
use Prim.Native.String.{String}
use Rattle.meaning_numbers.proofs.Table.{same_list}
use Rattle.std.specs.Prelude.{Ok, Err}
use Rattle.meaning_numbers.proofs.Prelude.{Bool, false, List, ◌++◌, ℕ, eqb, pos, replicate}
use Rattle.meaning_rows.specs.Index.{zero_row, Index}
use Rattle.meaning_text.specs.{Bytes.bytes, Number.spellℤ, Form.both, Read.fine, Read.unfit, Read.read_text, Texts.index_form, Texts.series_form, Texts.index_said, Texts.index_text, Texts.refused_text}
use Rattle.meaning_entries.specs.{declared.Audited.Audited, Answers.AuditAnswer, Answers.Built, Buffers.IndexBuffers, Extend.ExtendCall, Extend.extend_answer, Extend.extend_index, AuditText.audit_text, AuditText.unpack, Program.program}

same : List ℕ → String → Bool
same t s = same_list eqb t (bytes s)

-- the search program
unfoldable pub prints : String → String → Bool
unfolding same
prints input output = same (program (bytes input)) output

-- `(word n ..)` on a line
item : ℕ → List ℕ
item n = bytes " " ++ spellℤ (pos n)

said : AuditAnswer → List ℕ
unfolding item
said (Ok Audited.Yes) = bytes "(yes)\n"
said (Ok (Audited.Wrong row offset)) = bytes "(wrong" ++ (item row ++ (item offset ++ bytes ")\n"))
said (Ok (Audited.Missing count)) = bytes "(missing" ++ (item count ++ bytes ")\n")
said (Err r) = refused_text r.number r.place

-- the audit of two texts, by way of the number that the entry returns
unfoldable pub audits : String → String → String → Bool
unfolding same said
audits index series output = same (said (unpack (audit_text (bytes index) (bytes series)))) output

room : IndexBuffers
room = record { rows = replicate 100 zero_row; left = replicate 100 0; right = replicate 100 0 }

grown_by : ExtendCall → Built → List ℕ
grown_by c (Ok m) = index_text (extend_index c)
grown_by c (Err r) = refused_text r.number r.place

-- an index text with a series line behind it: the index extended over the series
unfoldable pub extends : String → String → Bool
unfolding same room grown_by
extends input output = elim (read_text (both index_form series_form) (bytes input)) [
  | fine v ↦ let c : ExtendCall = record { series = v.1; index = index_said v.0 } in same (grown_by c (extend_answer c room)) output
  | unfit p ↦ false
]

unfoldable pub open_row : Unit {0}
unfolding prints audits extends
open_row = tt
