-- `make_plan` meets its contract.
use Rattle.std.specs.Prelude.{Ok, Err}
use Rattle.meaning_numbers.proofs.Prelude.{◌≡◌, sym, ap, ◌∙◌, rules}
use Rattle.entry_audit.proofs as own
use own.Cases.{plan-is-ok, plan-is-err}
use Rattle.entry_audit.proofs.make_plan.Goals as goal

pub returns-in_err-refuse_audit : goal.returns-in_err-refuse_audit
returns-in_err-refuse_audit c =
    let e : c.from_residual.result ≡ Err c.in_err-refuse_audit.field-0.0 = search rules in
    e ∙ plan-is-err c.args.series.now c.args.head c.args.judged (sym c.refuse_audit.ensures ∙ c.in_err-refuse_audit.was)

pub returns : goal.returns
returns c = ap (λ n. Ok n) c.left_over.ensures ∙ plan-is-ok c.args.series.now c.args.head c.args.judged (sym c.refuse_audit.ensures ∙ c.in_ok-refuse_audit.was)
