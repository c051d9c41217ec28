-- Each promise leaves one outcome: an entry that keeps it gives the answer that is meant and leaves the buffers that are meant. The converse of `Demand2`.
use Rattle.meaning_numbers.proofs.Prelude.{◌≡◌, refl, sym, ap, ◌∙◌, List, Option, None, Some, ℕ, ℤ, pos}
use Rattle.meaning_rows.specs.Index.{Index}
use Rattle.meaning_filter.specs.declared.Ask.{Ask}
use Rattle.meaning_entries.specs.Demand2.{BuildKept, ExtendKept, AuditKept, WriteKept, LoadKept, SearchKept, AuditTextKept, ProgramKept}
use Rattle.meaning_entries.specs.{Answers.Built, Answers.AuditAnswer, Answers.Written, Answers.SearchAnswer, Refusal.first_refusal, Buffers.IndexBuffers, Build.BuildCall, Build.lent_build, Build.build_answer, Build.build_after, Extend.ExtendCall, Extend.extend_answer, Extend.extend_after, Audit.AuditCall, Audit.audit_answer, Write.write_answer, Write.write_after, Load.load_answer, Load.load_after, Search.SearchCall, Search.SearchBuffers, Search.lent_ask, Search.plain_ask, Search.search_answer, Search.search_after, AuditText.audit_text_answer, AuditText.audit_text, AuditText.unpack, Program.program_table, Program.program, Demand1.ProgramRefuses}
use Rattle.meaning_entries.proofs.{Demand1.program-by, Demand1.program-free, Pack.audit-text-back}

pub build-only : {c : BuildCall} {b : IndexBuffers} {a : Built} {after : IndexBuffers} → BuildKept c b a after → (a ≡ build_answer c b) × (after ≡ build_after c b)
build-only k = (k.answered, λ i. record { rows = k.rows i; left = k.left i; right = k.right i })

pub extend-only : {c : ExtendCall} {b : IndexBuffers} {a : Built} {after : IndexBuffers} → ExtendKept c b a after → (a ≡ extend_answer c b) × (after ≡ extend_after c b)
extend-only k = (k.answered, λ i. record { rows = k.rows i; left = k.left i; right = k.right i })

pub audit-only : {c : AuditCall} {a : AuditAnswer} → AuditKept c a → a ≡ audit_answer c
audit-only k = k.answered

pub write-only : {x : Index} {t : List ℕ} {a : Written} {after : List ℕ} → WriteKept x t a after → (a ≡ write_answer x t) × (after ≡ write_after x t)
write-only k = (k.answered, k.text)

pub load-only : {t : List ℕ} {b : IndexBuffers} {a : Built} {after : IndexBuffers} → LoadKept t b a after → (a ≡ load_answer t b) × (after ≡ load_after t b)
load-only k = (k.answered, λ i. record { rows = k.rows i; left = k.left i; right = k.right i })

pub search-only : {c : SearchCall} {b : SearchBuffers} {a : SearchAnswer} {after : SearchBuffers} → SearchKept c b a after → (a ≡ search_answer c b) × (after ≡ search_after c b)
search-only k = (k.answered, λ i. record { left = k.left i; right = k.right i; scratch = k.scratch i; offsets = k.offsets i; distances = k.distances i })

pub audit-text-only : {x s : List ℕ} {a : ℕ} → AuditTextKept x s a → (a ≡ audit_text x s) × (unpack a ≡ audit_text_answer x s)
audit-text-only {x} {s} k = (k.answered, ap unpack k.answered ∙ audit-text-back x s)

pub program-only : {t out : List ℕ} → ProgramKept t out → out ≡ program t
program-only k = k.printed

-- of the program demand 1 says as much
pub program-refuses-only : {t out : List ℕ} → ProgramRefuses t out → out ≡ program t
program-refuses-only {t} {out} k = by _ refl
  where
    by : (o : Option (ℕ × ℕ)) → first_refusal (program_table t) ≡ o → out ≡ program t
    by None e = k.free e ∙ sym (program-free t e)
    by (Some r) e = k.refused r.0 r.1 e ∙ sym (program-by t r.0 r.1 e)

-- what the code is asked, and back: nothing of it is lost
pub plain-lent : (a : Ask) → plain_ask (lent_ask a) ≡ a
plain-lent a = refl

-- the call of a build has the numbers that it is made of
pub lent-build : (s : List ℤ) (w d g : ℕ) → ((lent_build s w d g).window ≡ pos w) × ((lent_build s w d g).width ≡ pos d) × ((lent_build s w d g).merge ≡ pos g)
lent-build s w d g = (refl, refl, refl)
