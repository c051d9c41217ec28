-- `plan_fine`, by what refuses.
use Rattle.std.specs.Prelude.{Ok, Err}
use Rattle.std.specs.declared.result.Result.{Result}
use Rattle.std.proofs.Common.{◌≡◌, sym, ap, ◌∙◌, ℕ, rules}
use Rattle.meaning_rows.specs.declared.Head.{Head}
use Rattle.meaning_entries.specs.{declared.Refusal.Refusal, Answers.held}
use Rattle.meaning_entries.proofs.Refused.{passed_is}
use Rattle.refusals.specs.Refusal.{verdict, passes, refuses}
use Rattle.text_judge.specs.declared.Rows.{Rows}
use Rattle.entry_read.specs.Plan.{rows_table, plan_by, fit_plan}
use Rattle.entry_read.proofs.plan_fine.Goals as goal

module _ (h : Head) (c : Rows) (rows runs : ℕ) {v : Result (Unit {0}) Refusal} (is : v ≡ verdict (rows_table h c rows runs)) where
  stopped : {r : Refusal} → v ≡ Err r → Err r ≡ fit_plan h c rows runs
  unfolding fit_plan
  stopped e = sym (ap (λ o. plan_by o h c) (refuses (rows_table h c rows runs) is e))

  free : v ≡ Ok tt → Ok (held h c.rows c.runs) ≡ fit_plan h c rows runs
  unfolding fit_plan
  free e = sym (ap (λ o. plan_by o h c) (passed_is (passes (rows_table h c rows runs) is e)))

pub returns-in_err-refuse_rows : goal.returns-in_err-refuse_rows
returns-in_err-refuse_rows c =
    let a = c.args in
    let e : c.from_residual.result ≡ Err c.in_err-refuse_rows.field-0.0 = search rules in
    e ∙ stopped a.head a.c a.rows a.runs c.refuse_rows.ensures c.in_err-refuse_rows.was

pub returns : goal.returns
returns c = let a = c.args in free a.head a.c a.rows a.runs c.refuse_rows.ensures c.in_ok-refuse_rows.was
