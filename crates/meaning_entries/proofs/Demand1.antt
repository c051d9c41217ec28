-- Demand 1 of the meanings: each entry's answer refuses by the first line of its table that applies, and by no other. By cases on that line; of a search, the one line with the number 24 has the place 0.
use Rattle.std.specs.Prelude.{Ok, Err}
use Rattle.meaning_numbers.proofs.Prelude.{◌≡◌, refl, sym, ap, ◌∙◌, subst, Bool, true, false, not, cond, ◌&&◌, List, [], ◌∷◌, Option, None, Some, ℕ, zero, suc, arith, T, T_not, eqb, eqb→eq, ltb, two-tests}
use Rattle.meaning_curves.specs.Limits.{most_values}
use Rattle.meaning_rows.specs.{Index.Index, Audit.first_wrong}
use Rattle.meaning_text.specs.Texts.{refused_text}
use Rattle.meaning_entries.specs.Demand1.{BuildRefuses, ExtendRefuses, AuditRefuses, WriteRefuses, LoadRefuses, SearchRefuses, AuditTextRefuses, ProgramRefuses}
use Rattle.meaning_filter.specs.declared.Pick.{Pick}
use Rattle.meaning_entries.specs.Search.{SearchCall, SearchBuffers, list_room, search_plan, search_table, search_refused, search_told, search_answer}
use Rattle.meaning_entries.specs.{Refusal.Condition, Refusal.first_refusal, Refusal.list_short, Buffers.IndexBuffers, Build.BuildCall, Build.build_table, Build.build_answer, Extend.ExtendCall, Extend.extend_table, Extend.extend_answer, Audit.AuditCall, Audit.audit_table, Audit.complete, Audit.audited, Audit.audit_answer, Write.write_table, Write.write_answer, Load.load_table, Load.load_answer, AuditText.audit_text_table, AuditText.audit_text_answer, AuditText.audit_text, Program.text_program, Program.program_table, Program.printed, Program.program, Answers.found_refusal, Answers.refusal_in}
use Rattle.meaning_entries.proofs.{Refused.open_lines, Refused.First, Refused.here, Refused.later, Refused.is-first, Pack.audit-text-back}

build-by : (c : BuildCall) (b : IndexBuffers) (o : Option (ℕ × ℕ)) → first_refusal (build_table c b) ≡ o → refusal_in (build_answer c b) ≡ o
unfolding build_answer
build-by c b None e = rw (e, build_answer)
build-by c b (Some r) e = rw (e, build_answer)

pub build-refuses : (c : BuildCall) (b : IndexBuffers) → BuildRefuses c b (build_answer c b)
build-refuses c b = record { same = build-by c b _ refl }

extend-by : (c : ExtendCall) (b : IndexBuffers) (o : Option (ℕ × ℕ)) → first_refusal (extend_table c b) ≡ o → refusal_in (extend_answer c b) ≡ o
unfolding extend_answer
extend-by c b None e = rw (e, extend_answer)
extend-by c b (Some r) e = rw (e, extend_answer)

pub extend-refuses : (c : ExtendCall) (b : IndexBuffers) → ExtendRefuses c b (extend_answer c b)
extend-refuses c b = record { same = extend-by c b _ refl }

write-by : (x : Index) (t : List ℕ) (o : Option (ℕ × ℕ)) → first_refusal (write_table x t) ≡ o → refusal_in (write_answer x t) ≡ o
unfolding write_answer
write-by x t None e = rw (e, write_answer)
write-by x t (Some r) e = rw (e, write_answer)

pub write-refuses : (x : Index) (t : List ℕ) → WriteRefuses x t (write_answer x t)
write-refuses x t = record { same = write-by x t _ refl }

load-by : (t : List ℕ) (b : IndexBuffers) (o : Option (ℕ × ℕ)) → first_refusal (load_table t b) ≡ o → refusal_in (load_answer t b) ≡ o
unfolding load_answer
load-by t b None e = rw (e, load_answer)
load-by t b (Some r) e = rw (e, load_answer)

pub load-refuses : (t : List ℕ) (b : IndexBuffers) → LoadRefuses t b (load_answer t b)
load-refuses t b = record { same = load-by t b _ refl }

-- ---- audits

audit-by : (c : AuditCall) (o : Option (ℕ × ℕ)) → first_refusal (audit_table most_values c) ≡ o → refusal_in (audit_answer c) ≡ o
unfolding audit_answer
audit-by c None e = rw (e, audit_answer)
audit-by c (Some r) e = rw (e, audit_answer)

pub audit-refuses : (c : AuditCall) → AuditRefuses c (audit_answer c)
audit-refuses c = record { same = audit-by c _ refl }

audit-text-by : (x s : List ℕ) (o : Option (ℕ × ℕ)) → first_refusal (audit_text_table x s) ≡ o → refusal_in (audit_text_answer x s) ≡ o
unfolding audit_text_answer
audit-text-by x s None e = rw (e, audit_text_answer)
audit-text-by x s (Some r) e = rw (e, audit_text_answer)

pub audit-text-refuses : (x s : List ℕ) → AuditTextRefuses x s (audit_text x s)
audit-text-refuses x s = record { same = ap refusal_in (audit-text-back x s) ∙ audit-text-by x s _ refl }

-- ---- a search: 24 has the place 0

-- where the line has the number 24, its place is 0
abbrev Zero : Condition → Type 0
Zero c = (p : ℕ) → c.number ≡ 24 → c.place ≡ Some p → p ≡ 0

-- no line before the last has that number
others : Condition → List Condition → Bool
others c [] = true
others c (d ∷ l) = not (eqb c.number 24) && others d l

last : Condition → List Condition → Condition
last c [] = c
last c (d ∷ l) = last d l

number-other : (n : ℕ) {B : Type 0} → T (not (eqb n 24)) → n ≡ 24 → B
number-other n t e = absurd (T_not (eqb n 24) t (rw e tt))

zero-first : (c : Condition) (l : List Condition) {n p : ℕ} → T (others c l) → Zero (last c l) → First (c ∷ l) n p → n ≡ 24 → p ≡ 0
unfolding others last
zero-first c [] {p = p} t z (here e) i = z p i e
zero-first c [] t z (later e f) i = elim f [ ]
zero-first c (d ∷ l) t z (here e) i = number-other _ (two-tests (not (eqb c.number 24)) (others d l) t).0 i
zero-first c (d ∷ l) t z (later e f) i = zero-first d l (two-tests (not (eqb c.number 24)) (others d l) t).1 z f i

list-zero : (room found : ℕ) → Zero (list_short room found)
unfolding list_short
list-zero room found p i e = by (ltb room found) e
  where
    by : (t : Bool) → cond t (Some 0) None ≡ Some p → p ≡ 0
    by true h = cc
    by false h = let z : ◌≡◌ {A = ℕ} 0 1 = cc in absurd (omega arith)

search-zero : (c : SearchCall) (b : SearchBuffers) {n p : ℕ} → First (search_table c b) n p → n ≡ 24 → p ≡ 0
unfolding open_lines search_plan search_table others last
search-zero c b f = zero-first _ _ tt (list-zero (list_room b) _) f

-- what a refused search answers
refused-by : (c : SearchCall) (n p : ℕ) (t : Bool) → eqb n 24 ≡ t → (n ≡ 24 → p ≡ 0) → found_refusal (search_refused c (n, p)) ≡ Some (n, p)
unfolding search_refused
refused-by c n p true e z =
    let i = eqb→eq n 24 (subst T (sym e) tt) in
    rw (e, search_refused) (rw (i, z i) refl)
refused-by c n p false e z = rw (e, search_refused)

told_free : (p : Pick) (a n : ℕ) → found_refusal (Ok (search_told p a n)) ≡ None
unfolding search_told
told_free Pick.All a n = refl
told_free (Pick.Closest k) a n = refl

search-by : (c : SearchCall) (b : SearchBuffers) (o : Option (ℕ × ℕ)) → first_refusal (search_table c b) ≡ o → found_refusal (search_answer c b) ≡ o
unfolding search_answer
search-by c b None e = rw (e, search_answer) (told_free c.ask.pick _ _)
search-by c b (Some r) e =
    rw (e, search_answer) (refused-by c r.0 r.1 _ refl (search-zero c b (is-first _ r.0 r.1 e)))

pub search-refuses : (c : SearchCall) (b : SearchBuffers) → SearchRefuses c b (search_answer c b)
search-refuses c b = record { same = search-by c b _ refl }

-- ---- the search program

pub program-by : (t : List ℕ) (n p : ℕ) → first_refusal (program_table t) ≡ Some (n, p) → program t ≡ refused_text n p
unfolding program
program-by t n p e = rw (e, program)

pub program-free : (t : List ℕ) → first_refusal (program_table t) ≡ None → program t ≡ printed (text_program t)
unfolding program
program-free t e = rw (e, program)

pub program-refuses : (t : List ℕ) → ProgramRefuses t (program t)
program-refuses t = record { refused = program-by t; free = program-free t }
