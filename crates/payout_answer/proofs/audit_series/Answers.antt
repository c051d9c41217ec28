-- `audit_series`: the answer by the plan, and where nothing refuses by the walk over the rows.
use Rattle.std.specs.Prelude.{Ok, Err}
use Rattle.meaning_numbers.proofs.Prelude.{◌≡◌, sym, ap, ◌∙◌, rules}
use Rattle.entry_audit.specs.Plan.{plan_of}
use Rattle.payout_answer.proofs.Planned.{stopped-right, goes-sized, walked-right}
use Rattle.payout_answer.proofs.audit_series.Goals as goal

pub returns-in_err-lacking : goal.returns-in_err-lacking
returns-in_err-lacking c =
    let a = c.args in
    let e : c.from_residual.result ≡ Err c.in_err-lacking.field-0.0 = search rules in
    e ∙ stopped-right a.index.now a.series.now a.head a.c c.requires (sym (c.make_plan.ensures ∙ ap (plan_of a.series.now a.head) c.judged_rows.ensures) ∙ c.in_err-lacking.was)

pub walk_rows-wrong-requires : goal.walk_rows-wrong-requires
walk_rows-wrong-requires c =
    let a = c.args in
    goes-sized a.index.now a.series.now a.head a.c c.requires (sym (c.make_plan.ensures ∙ ap (plan_of a.series.now a.head) c.judged_rows.ensures) ∙ c.in_ok-lacking.was)

pub returns : goal.returns
returns c =
    let a = c.args in
    ap (λ x. Ok x) c.answer.ensures
    ∙ walked-right a.index.now a.series.now a.head a.c c.requires (sym (c.make_plan.ensures ∙ ap (plan_of a.series.now a.head) c.judged_rows.ensures) ∙ c.in_ok-lacking.was) c.walk_rows-wrong.result c.walk_rows-wrong.ensures
