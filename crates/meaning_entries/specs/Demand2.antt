-- Demand 2: each entry keeps its promise. A record for each entry: the answer, with this paper's number, place and counts of it, and the content of every lent buffer afterwards, for every call and whatever the buffers held before.
-- Nothing is left free but how the number of the C entry is packed (`pack`), which is ours to say.
use Rattle.std.specs.Prelude.{ℕ, List, ◌≡◌}
use Rattle.meaning_curves.specs.Limits.{most_values}
use Rattle.meaning_rows.specs.Index.{Index}
use Rattle.meaning_entries.specs.Answers.{Built, Written, AuditAnswer, SearchAnswer, refusal_in, held_head, held_counts, wrong_place, missing_count, written_count, found_refusal, found_counts}
use Rattle.meaning_entries.specs.{Refusal.first_refusal, Buffers.IndexBuffers, Build.BuildCall, Build.build_refusal, Build.build_answer, Build.build_head, Build.build_counts, Build.build_after, Extend.ExtendCall, Extend.extend_refusal, Extend.extend_answer, Extend.extend_head, Extend.extend_counts, Extend.extend_after, Audit.AuditCall, Audit.audit_table, Audit.audit_answer, Audit.wrong_in, Audit.missing_in, Audit.audit_wrong, Audit.audit_missing, Write.write_refusal, Write.write_answer, Write.write_count, Write.write_after, Load.load_refusal, Load.load_answer, Load.load_head, Load.load_counts, Load.load_after, Search.SearchCall, Search.SearchBuffers, Search.search_refusal, Search.search_answer, Search.search_counts, Search.search_after, AuditText.audit_text_table, AuditText.text_call, AuditText.audit_text, AuditText.unpack, Program.program}

pub record BuildKept (c : BuildCall) (before : IndexBuffers) (answer : Built) (after : IndexBuffers) : Type 0 where
  pub answered : answer ≡ build_answer c before
  pub refused : refusal_in answer ≡ build_refusal c before
  pub headed : held_head answer ≡ build_head c before
  pub counted : held_counts answer ≡ build_counts c before
  pub rows : after.rows ≡ (build_after c before).rows
  pub left : after.left ≡ (build_after c before).left
  pub right : after.right ≡ (build_after c before).right

pub record ExtendKept (c : ExtendCall) (before : IndexBuffers) (answer : Built) (after : IndexBuffers) : Type 0 where
  pub answered : answer ≡ extend_answer c before
  pub refused : refusal_in answer ≡ extend_refusal c before
  pub headed : held_head answer ≡ extend_head c before
  pub counted : held_counts answer ≡ extend_counts c before
  pub rows : after.rows ≡ (extend_after c before).rows
  pub left : after.left ≡ (extend_after c before).left
  pub right : after.right ≡ (extend_after c before).right

pub record AuditKept (c : AuditCall) (answer : AuditAnswer) : Type 0 where
  pub answered : answer ≡ audit_answer c
  pub refused : refusal_in answer ≡ first_refusal (audit_table most_values c)
  pub wrong : wrong_place answer ≡ audit_wrong c
  pub missing : missing_count answer ≡ audit_missing c

pub record WriteKept (x : Index) (before : List ℕ) (answer : Written) (after : List ℕ) : Type 0 where
  pub answered : answer ≡ write_answer x before
  pub refused : refusal_in answer ≡ write_refusal x before
  pub counted : written_count answer ≡ write_count x before
  pub text : after ≡ write_after x before

pub record LoadKept (text : List ℕ) (before : IndexBuffers) (answer : Built) (after : IndexBuffers) : Type 0 where
  pub answered : answer ≡ load_answer text before
  pub refused : refusal_in answer ≡ load_refusal text before
  pub headed : held_head answer ≡ load_head text before
  pub counted : held_counts answer ≡ load_counts text before
  pub rows : after.rows ≡ (load_after text before).rows
  pub left : after.left ≡ (load_after text before).left
  pub right : after.right ≡ (load_after text before).right

pub record SearchKept (c : SearchCall) (before : SearchBuffers) (answer : SearchAnswer) (after : SearchBuffers) : Type 0 where
  pub answered : answer ≡ search_answer c before
  pub refused : found_refusal answer ≡ search_refusal c before
  pub counted : found_counts answer ≡ search_counts c before
  pub left : after.left ≡ (search_after c before).left
  pub right : after.right ≡ (search_after c before).right
  pub scratch : after.scratch ≡ (search_after c before).scratch
  pub offsets : after.offsets ≡ (search_after c before).offsets
  pub distances : after.distances ≡ (search_after c before).distances

-- the number of the C entry, which unpacked is the answer
pub record AuditTextKept (index series : List ℕ) (answer : ℕ) : Type 0 where
  pub answered : answer ≡ audit_text index series
  pub refused : refusal_in (unpack answer) ≡ first_refusal (audit_text_table index series)
  pub wrong : wrong_place (unpack answer) ≡ wrong_in (first_refusal (audit_text_table index series)) (text_call index series)
  pub missing : missing_count (unpack answer) ≡ missing_in (first_refusal (audit_text_table index series)) (text_call index series)

-- what the search program prints
pub record ProgramKept (input output : List ℕ) : Type 0 where
  pub printed : output ≡ program input
