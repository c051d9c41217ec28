-- The audit of an index text against a series: its plan's table is that of the call (`table_is`); what the audit of the rows asks holds where nothing refuses (`goes-sized`), and what is answered is what the meanings say (`stopped-right`, `walked-right`).
use Rattle.std.specs.Prelude.{Ok, Err}
use Rattle.std.specs.declared.result.Result.{Result}
use Rattle.meaning_numbers.proofs.Prelude.{ℕ, ◌+◌, ◌-◌, ℤ, nat_abs, length, true, List, [], ◌∷◌, ◌++◌, Option, None, ◌≡◌, refl, sym, ap, subst, ◌∙◌, arith}
use Rattle.meaning_curves.specs.Limits.{most_values}
use Rattle.meaning_rows.specs.{declared.Head.Head, Index.Index, Index.lent, Judge.head_good, Audit.first_wrong, Audit.missing}
use Rattle.meaning_rows.proofs.{Judge.WellFormed, Judge.good-head, Judge.none-bad, Audit.missing-are}
use Rattle.meaning_text.specs.{Form.Value, Read.Verdict, Read.fine, Read.unfit, Read.read_text, Texts.index_form, Texts.index_said}
use Rattle.meaning_entries.specs.{declared.Refusal.Refusal, Answers.AuditAnswer, Refusal.first_refusal, Refusal.series_lines, Refusal.count_lines, Audit.AuditCall, Audit.audit_table, Audit.audit_answer, Load.text_index}
use Rattle.meaning_entries.proofs.{Again.text-fine, Refused.AllPass, Refused.open_lines, Refused.passed-line, Refused.same-behind}
use Rattle.rows_judge.specs.Judged.{Judged}
use Rattle.refusals.specs.Refusal.{verdict_of, verdict, judged_line, judged-line}
use Rattle.entry_audit.specs.Plan.{table_of, left_over, plan_of, answer_of}
use Rattle.entry_audit.proofs.Cases.{plan-ok, plan-err, refused, values-in, formed, fits, said}
use Rattle.text_judge.specs.{declared.Rows.Rows, Tally.no_rows, Tally.rows_from, Tally.head_held, Tally.scanned, Judged.judged_rows}
use Rattle.text_judge.proofs.Bad.{head-is, rows-judged, rows-good}
use Rattle.payout_walk.specs.Walk.{Sized, Walked}
use Rattle.payout_walk.proofs.Found.{rows-found}
use Rattle.payout_answer.proofs.Taken.{rows_taken}

module _ (series : List ℤ) (v : Value index_form) where
  abbrev X : Index
  X = index_said v

  abbrev h : Head
  h = head_held v

  abbrev c : Rows
  c = rows_from h no_rows v.1.1.1

  abbrev call : AuditCall
  call = record { series = series; index = X }

  abbrev j : Judged
  j = judged_rows h c

  -- where no row is bad the head's windows are the index's
  same-counts : AllPass (series_lines most_values series ++ (judged_line j ∷ [])) → count_lines (length series) (lent h [] [] []) ≡ count_lines (length series) X
  unfolding open_lines index_said
  same-counts t =
      let i = head-is v (rows-good v (sym (rows-judged v) ∙ passed-line t 20)).0 in
      λ k. count_lines (length series) (record { window = sym i.window k; width = X.width; windows = sym i.windows k; rows = []; runs = [] })

  -- what is refused first is that of the call's table
  same-first : first_refusal (table_of series h j) ≡ first_refusal (audit_table most_values call)
  unfolding table_of audit_table
  same-first = same-behind _ _ _ (λ t. ap first_refusal (same-counts t)) ∙ rw (judged-line X j (rows-judged v)) refl

  same-verdict : verdict (audit_table most_values call) ≡ verdict (table_of series h j)
  same-verdict = ap verdict_of (sym same-first)

  pub stopped_by : {r : Refusal} → plan_of series h j ≡ Err r → Err r ≡ audit_answer call
  stopped_by p = refused call refl (same-verdict ∙ plan-err series h j p)

  module _ {lacking : ℕ} (p : plan_of series h j ≡ Ok lacking) where
    z : verdict (audit_table most_values call) ≡ Ok tt
    z = same-verdict ∙ (plan-ok series h j p).0

    well : WellFormed X
    well = formed call refl z

    good : (head_good (lent h [] [] []) ≡ true) × (c.good ≡ true)
    good = rows-good v (none-bad X well)

    pub sized-by : Sized series h
    sized-by =
        let w = (good-head (lent h [] [] []) good.0).window in
        record { values = values-in call refl z; least = w.least; window = w.most }

    left-is : left_over h j ≡ h.windows - c.taken
    unfolding judged_rows
    left-is = rw (good.0, good.1) refl

    lacking-is : first_wrong X series ≡ None → lacking ≡ missing X
    unfolding index_said
    lacking-is e =
        sym (plan-ok series h j p).1 ∙ left-is ∙ omega (arith, missing-are X series well e, rows_taken v good.0 good.1, ap nat_abs (head-is v good.0).windows)

    pub walked_by : (t : List ℕ) (s : Option (ℕ × ℕ)) → read_text index_form t ≡ fine v → Walked series h t s → Ok (answer_of lacking s) ≡ audit_answer call
    unfolding Walked index_said
    walked_by t s r w =
        let i = head-is v good.0 in
        let n : h.windows + h.window ≡ length series + 1 = omega (arith, fits call refl z, ap nat_abs i.windows, ap nat_abs i.window) in
        let e : first_wrong X series ≡ s = sym (w v r ∙ rows-found series v good.0 good.1 n) in
        said call refl z lacking s e (λ o. lacking-is (e ∙ o))

-- ---- a text whose head and rows came to h and c

module _ (t : List ℕ) (series : List ℤ) (h : Head) (c : Rows) (came : Ok (h, c) ≡ scanned (read_text index_form t)) where
  abbrev plan : Result ℕ Refusal
  plan = plan_of series h (judged_rows h c)

  abbrev answered : AuditAnswer
  answered = audit_answer (record { series = series; index = text_index t })

  -- the text can be read, and its value has this head and these rows
  record AnswerTold : Type 0 where
    value : Value index_form
    read : read_text index_form t ≡ fine value
    head : h ≡ head_held value
    rows : c ≡ rows_from (head_held value) no_rows value.1.1.1

  told : AnswerTold
  told = by _ refl
    where
      by : (x : Verdict (Value index_form)) → read_text index_form t ≡ x → AnswerTold
      by (fine v) e = let p : (h, c) ≡ (head_held v, rows_from (head_held v) no_rows v.1.1.1) = cc in record { value = v; read = e; head = ap (λ (q : Head × Rows). q.0) p; rows = ap (λ (q : Head × Rows). q.1) p }
      by (unfit p) e = let z : ◌≡◌ {A = ℕ} 0 1 = cc in absurd (omega arith)

  abbrev v : Value index_form
  v = told.value

  same-plan : plan ≡ plan_of series (head_held v) (judged_rows (head_held v) (rows_from (head_held v) no_rows v.1.1.1))
  same-plan = ap (λ (u : Head). plan_of series u (judged_rows u c)) told.head ∙ ap (λ (d : Rows). plan_of series (head_held v) (judged_rows (head_held v) d)) told.rows

  same_answer : audit_answer (record { series = series; index = index_said v }) ≡ answered
  same_answer = rw (sym (text-fine t v told.read))

  pub stopped-right : {r : Refusal} → plan ≡ Err r → Err r ≡ answered
  stopped-right p = stopped_by series v (sym same-plan ∙ p) ∙ same_answer

  module _ {lacking : ℕ} (p : plan ≡ Ok lacking) where
    pub goes-sized : Sized series h
    goes-sized = subst (Sized series) (sym told.head) (sized-by series v (sym same-plan ∙ p))

    pub walked-right : (s : Option (ℕ × ℕ)) → Walked series h t s → Ok (answer_of lacking s) ≡ answered
    walked-right s w = walked_by series v (sym same-plan ∙ p) t s told.read (subst (λ (u : Head). Walked series u t s) told.head w) ∙ same_answer
