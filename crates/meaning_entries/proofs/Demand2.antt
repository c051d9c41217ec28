-- Demand 2 for code: an entry that gives the answer that is meant and leaves the buffers that are meant keeps its promise; number, place and counts follow from the answer. By cases on the refusal.
use Rattle.std.specs.Prelude.{Ok, Err}
use Rattle.meaning_numbers.proofs.Prelude.{◌≡◌, refl, ap, ◌∙◌, Bool, true, false, List, Option, None, Some, ℕ, zero, suc, eqb}
use Rattle.meaning_rows.specs.{Index.Index, Audit.first_wrong, Audit.missing}
use Rattle.meaning_filter.specs.declared.Pick.{Pick}
use Rattle.meaning_entries.specs.Answers.{Built, Written, AuditAnswer, SearchAnswer, refusal, refusal_in, held_head, held_counts, wrong_place, missing_count, written_count, found_refusal, found_counts}
use Rattle.meaning_entries.specs.Demand2.{BuildKept, ExtendKept, AuditKept, WriteKept, LoadKept, SearchKept, AuditTextKept}
use Rattle.meaning_entries.specs.Search.{SearchCall, SearchBuffers, search_refusal, looked, search_refused, search_told, search_answer, search_counts, search_after}
use Rattle.meaning_entries.specs.{Refusal.first_refusal, Buffers.IndexBuffers, Build.BuildCall, Build.build_refusal, Build.build_answer, Build.build_head, Build.build_counts, Build.build_after, Extend.ExtendCall, Extend.extend_refusal, Extend.extend_answer, Extend.extend_head, Extend.extend_counts, Extend.extend_after, Audit.AuditCall, Audit.complete, Audit.audited, Audit.audit_answer, Audit.wrong_in, Audit.missing_in, Write.write_refusal, Write.write_answer, Write.write_count, Write.write_after, Load.load_refusal, Load.load_answer, Load.load_head, Load.load_counts, Load.load_after, AuditText.audit_text_answer, AuditText.unpack, AuditText.audit_text}
use Rattle.meaning_entries.proofs.Pack.{audit-text-back}
use Rattle.meaning_entries.proofs.Demand1.{build-refuses, extend-refuses, audit-refuses, write-refuses, load-refuses, search-refuses, audit-text-refuses}

build-by : (c : BuildCall) (b : IndexBuffers) (o : Option (ℕ × ℕ)) → build_refusal c b ≡ o → (held_head (build_answer c b) ≡ build_head c b) × (held_counts (build_answer c b) ≡ build_counts c b)
unfolding build_answer build_head build_counts
build-by c b None h = rw (h, build_answer, build_head, build_counts) (refl, refl)
build-by c b (Some r) h = rw (h, build_answer, build_head, build_counts) (refl, refl)

pub build-kept : (c : BuildCall) (b : IndexBuffers) (a : Built) (after : IndexBuffers) → a ≡ build_answer c b → after ≡ build_after c b → BuildKept c b a after
build-kept c b a after h k = record {
  answered = h;
  refused = ap refusal_in h ∙ (build-refuses c b).same;
  headed = ap held_head h ∙ (build-by c b _ refl).0;
  counted = ap held_counts h ∙ (build-by c b _ refl).1;
  rows = rw k;
  left = rw k;
  right = rw k;
}

extend-by : (c : ExtendCall) (b : IndexBuffers) (o : Option (ℕ × ℕ)) → extend_refusal c b ≡ o → (held_head (extend_answer c b) ≡ extend_head c b) × (held_counts (extend_answer c b) ≡ extend_counts c b)
unfolding extend_answer extend_head extend_counts
extend-by c b None h = rw (h, extend_answer, extend_head, extend_counts) (refl, refl)
extend-by c b (Some r) h = rw (h, extend_answer, extend_head, extend_counts) (refl, refl)

pub extend-kept : (c : ExtendCall) (b : IndexBuffers) (a : Built) (after : IndexBuffers) → a ≡ extend_answer c b → after ≡ extend_after c b → ExtendKept c b a after
extend-kept c b a after h k = record {
  answered = h;
  refused = ap refusal_in h ∙ (extend-refuses c b).same;
  headed = ap held_head h ∙ (extend-by c b _ refl).0;
  counted = ap held_counts h ∙ (extend-by c b _ refl).1;
  rows = rw k;
  left = rw k;
  right = rw k;
}

load-by : (t : List ℕ) (b : IndexBuffers) (o : Option (ℕ × ℕ)) → load_refusal t b ≡ o → (held_head (load_answer t b) ≡ load_head t b) × (held_counts (load_answer t b) ≡ load_counts t b)
unfolding load_answer load_head load_counts
load-by t b None h = rw (h, load_answer, load_head, load_counts) (refl, refl)
load-by t b (Some r) h = rw (h, load_answer, load_head, load_counts) (refl, refl)

pub load_kept : (t : List ℕ) (b : IndexBuffers) (a : Built) (after : IndexBuffers) → a ≡ load_answer t b → after ≡ load_after t b → LoadKept t b a after
load_kept t b a after h k = record {
  answered = h;
  refused = ap refusal_in h ∙ (load-refuses t b).same;
  headed = ap held_head h ∙ (load-by t b _ refl).0;
  counted = ap held_counts h ∙ (load-by t b _ refl).1;
  rows = rw k;
  left = rw k;
  right = rw k;
}

complete-right : (n : ℕ) → wrong_place (Ok (complete n)) ≡ None
unfolding complete
complete-right zero = refl
complete-right (suc n) = refl

complete-counts : (n : ℕ) → missing_count (Ok (complete n)) ≡ n
unfolding complete
complete-counts zero = refl
complete-counts (suc n) = refl

audited-wrong : (c : AuditCall) (o : Option (ℕ × ℕ)) → first_wrong c.index c.series ≡ o → wrong_place (Ok (audited c)) ≡ o
unfolding audited
audited-wrong c None e = rw (e, audited) (complete-right _)
audited-wrong c (Some x) e = rw (e, audited)

audited-counts : (c : AuditCall) (o : Option (ℕ × ℕ)) → first_wrong c.index c.series ≡ o → missing_count (Ok (audited c)) ≡ missing_in None c
unfolding audited missing_in
audited-counts c None e = rw (e, audited, missing_in) (complete-counts _)
audited-counts c (Some x) e = rw (e, audited, missing_in)

-- what an audit says, refused or not
abbrev says : Option (ℕ × ℕ) → AuditCall → AuditAnswer
says o c = elim o [ Some r ↦ Err (refusal r) | None ↦ Ok (audited c) ]

says-wrong : (o : Option (ℕ × ℕ)) (c : AuditCall) → wrong_place (says o c) ≡ wrong_in o c
unfolding wrong_in
says-wrong None c = audited-wrong c _ refl
says-wrong (Some r) c = refl

says-counts : (o : Option (ℕ × ℕ)) (c : AuditCall) → missing_count (says o c) ≡ missing_in o c
unfolding missing_in
says-counts None c = audited-counts c _ refl
says-counts (Some r) c = refl

pub audit-kept : (c : AuditCall) (a : AuditAnswer) → a ≡ audit_answer c → AuditKept c a
unfolding audit_answer
audit-kept c a h =
    let o = first_refusal _ in
    record { answered = h; refused = ap refusal_in h ∙ (audit-refuses c).same; wrong = ap wrong_place h ∙ says-wrong o c; missing = ap missing_count h ∙ says-counts o c }

pub audit-text-kept : (x s : List ℕ) (a : ℕ) → a ≡ audit_text x s → AuditTextKept x s a
unfolding audit_text_answer
audit-text-kept x s a h =
    let o = first_refusal _ in
    let told = ap unpack h ∙ audit-text-back x s in
    record { answered = h; refused = ap (λ (n : ℕ). refusal_in (unpack n)) h ∙ (audit-text-refuses x s).same; wrong = ap wrong_place told ∙ says-wrong o _; missing = ap missing_count told ∙ says-counts o _ }

write-by : (x : Index) (t : List ℕ) (o : Option (ℕ × ℕ)) → write_refusal x t ≡ o → written_count (write_answer x t) ≡ write_count x t
unfolding write_answer write_count
write-by x t None h = rw (h, write_answer, write_count)
write-by x t (Some r) h = rw (h, write_answer, write_count)

pub write_kept : (x : Index) (t : List ℕ) (a : Written) (after : List ℕ) → a ≡ write_answer x t → after ≡ write_after x t → WriteKept x t a after
write_kept x t a after h k = record {
  answered = h;
  refused = ap refusal_in h ∙ (write-refuses x t).same;
  counted = ap written_count h ∙ write-by x t _ refl;
  text = k;
}

refused-counts : (c : SearchCall) (b : SearchBuffers) (r : ℕ × ℕ) (t : Bool) → search_refusal c b ≡ Some r → eqb r.0 24 ≡ t → found_counts (search_refused c r) ≡ search_counts c b
unfolding search_refused search_counts looked
refused-counts c b r true e h = rw (e, h, search_refused, search_counts)
refused-counts c b r false e h = rw (e, h, search_refused, search_counts)

told-counts : (p : Pick) (candidates matches : ℕ) → found_counts (Ok (search_told p candidates matches)) ≡ (candidates, matches)
unfolding search_told
told-counts Pick.All candidates matches = refl
told-counts (Pick.Closest k) candidates matches = refl

search-by : (c : SearchCall) (b : SearchBuffers) (o : Option (ℕ × ℕ)) → search_refusal c b ≡ o → found_counts (search_answer c b) ≡ search_counts c b
unfolding search_answer search_counts looked
search-by c b None h = rw (h, search_answer, search_counts) (told-counts c.ask.pick _ _)
search-by c b (Some r) h = rw (h, search_answer) (refused-counts c b r _ h refl)

pub search-kept : (c : SearchCall) (b : SearchBuffers) (a : SearchAnswer) (after : SearchBuffers) → a ≡ search_answer c b → after ≡ search_after c b → SearchKept c b a after
search-kept c b a after h k = record {
  answered = h;
  refused = ap found_refusal h ∙ (search-refuses c b).same;
  counted = ap found_counts h ∙ search-by c b _ refl;
  left = rw k;
  right = rw k;
  scratch = rw k;
  offsets = rw k;
  distances = rw k;
}
