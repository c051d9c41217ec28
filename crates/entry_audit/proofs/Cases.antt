-- What the audit answers, by its table: where it refuses, the answer is that refusal (`refused`); where nothing refuses its lines say what they test (`values-in`, `formed`, `fits`), and the answer is by what is filed wrongly first (`said`).
use Rattle.std.specs.Prelude.{Ok, Err}
use Rattle.std.specs.declared.result.Result.{Result}
use Rattle.meaning_numbers.proofs.Prelude.{◌≡◌, refl, sym, ap, ◌∙◌, Option, None, Some, List, ℕ, zero, suc, ◌+◌, arith, nat_abs, length, ℤ}
use Rattle.meaning_curves.specs.Limits.{most_values}
use Rattle.meaning_curves.proofs.Values.{AllIn}
use Rattle.meaning_rows.specs.{declared.Head.Head, Audit.first_wrong, Audit.missing}
use Rattle.meaning_rows.proofs.Judge.{WellFormed}
use Rattle.meaning_entries.specs.{declared.Audited.Audited, declared.Refusal.Refusal, Answers.refusal, Refusal.Condition, Refusal.first_refusal, Audit.AuditCall, Audit.audit_table, Audit.complete, Audit.audited, Audit.audit_answer}
use Rattle.meaning_entries.proofs.{Refused.AllPass, Refused.passed_is, Refused.open_lines, Refused.passed-line, Lines.values-line, Lines.formed-line, Lines.fewer-line, Lines.more-line, Passes.same-windows}
use Rattle.rows_judge.specs.Judged.{Judged}
use Rattle.refusals.specs.Refusal.{verdict_of, verdict, passes, refuses}
use Rattle.entry_audit.specs.Plan.{table_of, left_over, plan_of, answer_of}

-- ---- the plan

module _ (s : List ℤ) (h : Head) (j : Judged) where
  abbrev planned : Option (ℕ × ℕ) → Result ℕ Refusal
  planned o = elim o [ None ↦ Ok (left_over h j) | Some r ↦ Err (refusal r) ]

  ok-by : (o : Option (ℕ × ℕ)) {n : ℕ} → planned o ≡ Ok n → (verdict_of o ≡ Ok tt) × (left_over h j ≡ n)
  unfolding verdict_of
  ok-by None e = (refl, cc)
  ok-by (Some r) e = let z : ◌≡◌ {A = ℕ} 0 1 = cc in absurd (omega arith)

  err-by : (o : Option (ℕ × ℕ)) {r : Refusal} → planned o ≡ Err r → verdict_of o ≡ Err r
  unfolding verdict_of
  err-by None e = let z : ◌≡◌ {A = ℕ} 0 1 = cc in absurd (omega arith)
  err-by (Some q) e = cc

  pub plan-ok : {n : ℕ} → plan_of s h j ≡ Ok n → (verdict (table_of s h j) ≡ Ok tt) × (left_over h j ≡ n)
  unfolding plan_of
  plan-ok e = ok-by _ e

  pub plan-err : {r : Refusal} → plan_of s h j ≡ Err r → verdict (table_of s h j) ≡ Err r
  unfolding plan_of
  plan-err e = err-by _ e

  pub plan-is-ok : verdict (table_of s h j) ≡ Ok tt → Ok (left_over h j) ≡ plan_of s h j
  unfolding plan_of
  plan-is-ok e = sym (ap planned (passed_is (passes (table_of s h j) refl e)))

  pub plan-is-err : {r : Refusal} → verdict (table_of s h j) ≡ Err r → Err r ≡ plan_of s h j
  unfolding plan_of
  plan-is-err e = sym (ap planned (refuses (table_of s h j) refl e))

pub none-lacking : (n : ℕ) → n ≡ 0 → Audited.Yes ≡ complete n
unfolding complete
none-lacking n e = rw e refl

pub some-lacking : (n : ℕ) → (n ≡ 0 → ⊥) → Audited.Missing n ≡ complete n
unfolding complete
some-lacking zero f = absurd (f refl)
some-lacking (suc n) f = refl

-- ---- a table that is that of a call

module _ (c : AuditCall) {l : List Condition} (is : l ≡ audit_table most_values c) where
  pub refused : {r : Refusal} → verdict l ≡ Err r → Err r ≡ audit_answer c
  unfolding audit_answer
  refused e = rw (audit_answer, refuses (audit_table most_values c) (ap verdict is) e) refl

  -- that refuses nothing
  module _ (z : verdict l ≡ Ok tt) where
    t : AllPass (audit_table most_values c)
    t = passes _ (ap verdict is) z

    unrefused : first_refusal (audit_table most_values c) ≡ None
    unrefused = passed_is t

    pub values-in : AllIn c.series
    unfolding open_lines audit_table
    values-in = values-line c.series (passed-line t 2)

    pub formed : WellFormed c.index
    unfolding open_lines audit_table
    formed = formed-line c.index (passed-line t 20)

    pub fits : nat_abs c.index.windows + nat_abs c.index.window ≡ length c.series + 1
    unfolding open_lines audit_table
    fits = let n = length c.series in same-windows c.index c.series formed (fewer-line c.index n (passed-line t 21)) (more-line c.index n (passed-line t 22))

    pub said : (lacking : ℕ) (o : Option (ℕ × ℕ)) → first_wrong c.index c.series ≡ o → (o ≡ None → lacking ≡ missing c.index) → Ok (answer_of lacking o) ≡ audit_answer c
    unfolding audit_answer audited answer_of
    said lacking (Some p) e m = rw (audit_answer, unrefused) (rw (audited, e) refl)
    said lacking None e m = ap (λ n. Ok (complete n)) (m refl) ∙ rw (audit_answer, unrefused) (rw (audited, e) refl)
