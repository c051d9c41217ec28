-- The number of the C entry tells the answer again: `unpack` is inverse to `pack` for every answer that the audit of two texts gives (`audit-text-back`), since the numbers of refusals are below 32 and the offsets of a well-formed index below the most windows.
use Rattle.std.specs.Prelude.{Ok, Err}
use Rattle.meaning_numbers.proofs.Prelude.{◌≡◌, refl, sym, ap₂, ◌∙◌, subst, Bool, true, false, ◌&&◌, List, [], ◌∷◌, Option, None, Some, ℕ, zero, suc, ◌+◌, ◌*◌, ◌/◌, ◌%◌, ◌<◌, arith, T, eqb, eqb→eq, ltb, ltb→lt, ℤ, two-tests}
use Rattle.meaning_curves.specs.Limits.{most_values}
use Rattle.meaning_rows.specs.{Index.zero_row, Index.Index, Judge.first_bad_row, Audit.first_wrong}
use Rattle.meaning_rows.proofs.{Judge.well-formed, Judge.row_at, Judge.stands-below, Audit.first-wrong}
use Rattle.meaning_entries.specs.AuditText.{text_call, audit_text_table, audit_text_answer, pack_refusal, pack, unpack_by, unpack, audit_text}
use Rattle.meaning_entries.specs.{declared.Audited.Audited, Answers.AuditAnswer, Answers.refusal, Refusal.Condition, Refusal.first_refusal, Audit.AuditCall, Audit.audit_table, Audit.complete, Audit.audited, Load.text_index}
use Rattle.meaning_entries.proofs.Refused.{First, here, later, is-passed, is-first, open_lines, passed-line}

-- an offset is below the most windows, and every number of a refusal below 32
abbrev pub Packable : AuditAnswer → Type 0
Packable (Ok Audited.Yes) = Unit {0}
Packable (Ok (Audited.Wrong row offset)) = offset < most_values
Packable (Ok (Audited.Missing count)) = Unit {0}
Packable (Err r) = r.number < 32

-- a number is unpacked by its remainder and its quotient
by_parts : (n r v : ℕ) → n % 8 ≡ r → n / 8 ≡ v → unpack n ≡ unpack_by r v
unfolding unpack
by_parts n r v e f = ap₂ unpack_by e f

refused-back : (n p : ℕ) (t : Bool) → eqb n 12 ≡ t → n < 32 → unpack (pack_refusal n p) ≡ Err (refusal (n, p))
unfolding pack_refusal unpack_by
refused-back n p true e h =
    rw (e, pack_refusal) (by_parts _ 3 p (omega arith) (omega arith) ∙ rw (sym (eqb→eq n 12 (subst T (sym e) tt))))
refused-back n p false e h =
    let v = 32 * p + n in
    let a : v % 32 ≡ n = omega arith in
    let b : v / 32 ≡ p = omega arith in
    rw (e, pack_refusal) (by_parts _ 4 v (omega arith) (omega arith) ∙ ap₂ (λ k q. Err (refusal (k, q))) a b)

pub unpack-pack : (a : AuditAnswer) → Packable a → unpack (pack a) ≡ a
unfolding pack unpack_by
unpack-pack (Ok Audited.Yes) h = by_parts 0 0 0 refl refl
unpack-pack (Ok (Audited.Wrong row offset)) h =
    let v = most_values * row + offset in
    let a : v / most_values ≡ row = omega arith in
    let b : v % most_values ≡ offset = omega arith in
    by_parts _ 1 v (omega arith) (omega arith) ∙ ap₂ (λ i j. Ok (Audited.Wrong i j)) a b
unpack-pack (Ok (Audited.Missing count)) h = by_parts _ 2 count (omega arith) (omega arith)
unpack-pack (Err r) h = refused-back r.number r.place _ refl h

-- ---- every answer that occurs

-- a test that the numbers of a table pass, the number of its first line that applies passes
numbers-pass : (P : ℕ → Bool) → List Condition → Bool
numbers-pass P [] = true
numbers-pass P (c ∷ l) = P c.number && numbers-pass P l

first_passes : (P : ℕ → Bool) {l : List Condition} {n p : ℕ} → T (numbers-pass P l) → First l n p → T (P n)
unfolding numbers-pass
first_passes P t (here {c} {l} e) = (two-tests (P _) (numbers-pass P l) t).0
first_passes P t (later {c} {l} e f) = first_passes P (two-tests (P _) (numbers-pass P l) t).1 f

small-number : (x s : List ℕ) {n p : ℕ} → first_refusal (audit_text_table x s) ≡ Some (n, p) → n < 32
unfolding open_lines numbers-pass audit_text_table audit_table
small-number x s {n} {p} e = ltb→lt n 32 (first_passes (λ k. ltb k 32) tt (is-first _ n p e))

wrong-offset : (x : Index) (s : List ℤ) (k j : ℕ) → first_bad_row x ≡ None → first_wrong x s ≡ Some (k, j) → j < most_values
wrong-offset x s k j h e =
    let g = well-formed x h in
    let w = first-wrong x s g zero_row k j e in
    omega (arith, stands-below x _ j (row_at x g zero_row k w.is-row) w.stands-there, g.head.windows.most)

complete-packable : (n : ℕ) → Packable (Ok (complete n))
unfolding complete
complete-packable zero = tt
complete-packable (suc n) = tt

audited-packable : (c : AuditCall) (o : Option (ℕ × ℕ)) → first_bad_row c.index ≡ None → first_wrong c.index c.series ≡ o → Packable (Ok (audited c))
unfolding audited
audited-packable c None h e = rw (e, audited) (complete-packable _)
audited-packable c (Some r) h e = rw (e, audited) (wrong-offset _ _ r.0 r.1 h e)

formed : (x s : List ℕ) → first_refusal (audit_text_table x s) ≡ None → first_bad_row (text_index x) ≡ None
unfolding open_lines audit_text_table audit_table
formed x s e = passed-line (is-passed _ e) 20

packable-by : (x s : List ℕ) (o : Option (ℕ × ℕ)) → first_refusal (audit_text_table x s) ≡ o → Packable (audit_text_answer x s)
unfolding audit_text_answer
packable-by x s None e =
    rw (e, audit_text_answer) (audited-packable (text_call x s) _ (formed x s e) refl)
packable-by x s (Some r) e = rw (e, audit_text_answer) (small-number x s e)

pub audit-text-back : (x s : List ℕ) → unpack (audit_text x s) ≡ audit_text_answer x s
unfolding audit_text
audit-text-back x s = unpack-pack _ (packable-by x s _ refl)
