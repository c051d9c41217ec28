-- Demand 1: an entry refuses by the conditions of its table and by no others, for every input. (That it takes every input and ends is what a proved function without `requires` does.)
use Rattle.std.specs.Prelude.{ℕ, List, ◌≡◌}
use Rattle.std.specs.declared.option.Option.{Option}
use Rattle.std.specs.Prelude.{None, Some}
use Rattle.meaning_curves.specs.Limits.{most_values}
use Rattle.meaning_rows.specs.Index.{Index}
use Rattle.meaning_text.specs.Texts.{refused_text}
use Rattle.meaning_entries.specs.{Refusal.Condition, Refusal.first_refusal, Buffers.IndexBuffers, Build.BuildCall, Build.build_table, Extend.ExtendCall, Extend.extend_table, Audit.AuditCall, Audit.audit_table, Write.write_table, Load.load_table, Search.SearchCall, Search.SearchBuffers, Search.search_table, AuditText.audit_text_table, AuditText.unpack, Program.text_program, Program.program_table, Program.printed, Answers.Built, Answers.Written, Answers.AuditAnswer, Answers.SearchAnswer, Answers.refusal_in, Answers.found_refusal}

-- what an answer refuses by, if it does, is the first line of the table that applies, with its number and place; if none applies it does not refuse
pub record Refuses (table : List Condition) (refusal : Option (ℕ × ℕ)) : Type 0 where
  pub same : refusal ≡ first_refusal table

abbrev pub BuildRefuses : BuildCall → IndexBuffers → Built → Type 0
BuildRefuses c before answer = Refuses (build_table c before) (refusal_in answer)

abbrev pub ExtendRefuses : ExtendCall → IndexBuffers → Built → Type 0
ExtendRefuses c before answer = Refuses (extend_table c before) (refusal_in answer)

abbrev pub AuditRefuses : AuditCall → AuditAnswer → Type 0
AuditRefuses c answer = Refuses (audit_table most_values c) (refusal_in answer)

abbrev pub WriteRefuses : Index → List ℕ → Written → Type 0
WriteRefuses x before answer = Refuses (write_table x before) (refusal_in answer)

abbrev pub LoadRefuses : List ℕ → IndexBuffers → Built → Type 0
LoadRefuses text before answer = Refuses (load_table text before) (refusal_in answer)

abbrev pub SearchRefuses : SearchCall → SearchBuffers → SearchAnswer → Type 0
SearchRefuses c before answer = Refuses (search_table c before) (found_refusal answer)

-- the number of the C entry
abbrev pub AuditTextRefuses : List ℕ → List ℕ → ℕ → Type 0
AuditTextRefuses index series answer = Refuses (audit_text_table index series) (refusal_in (unpack answer))

-- the search program prints its refusal; where nothing refuses, the index and the list (law: `program-refuses-only`)
pub record ProgramRefuses (input output : List ℕ) : Type 0 where
  pub refused : (n p : ℕ) → first_refusal (program_table input) ≡ Some (n, p) → output ≡ refused_text n p
  pub free : first_refusal (program_table input) ≡ None → output ≡ printed (text_program input)
