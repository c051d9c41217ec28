-- `load_runs`. By the plan: nothing is altered, or the columns were cleared and filled.
use Rattle.std.specs.Prelude.{Err}
use Rattle.std.proofs.Common.{◌≡◌, ap, ◌∙◌, length, replicate, rules}
use Rattle.entry_read.specs.Plan.{plan_for}
use Rattle.entry_read.proofs.Planned.{column-stays, column-filled}
use Rattle.entry_read.proofs.load_runs.Goals as goal

pub returns-in_err-plan : goal.returns-in_err-plan
returns-in_err-plan c =
    let e : c.from_residual.result ≡ Err c.in_err-plan.field-0.0 = search rules in
    rw e (record { planned = c.in_err-plan.ensures ∙ ap (plan_for c.args.text.now c.args.rows) c.min.ensures; lefts = column-stays _ _ _; rights = column-stays _ _ _ })

pub returns : goal.returns
returns c =
    let a = c.args in
    let e = c.in_ok-plan.ensures ∙ ap (plan_for a.text.now a.rows) c.min.ensures in
    let l : c.fill.new.self ≡ replicate (length a.left.now) 0 = search rules in
    let r : c.fill-2.new.self ≡ replicate (length a.right.now) 0 = search rules in
    let q = column-filled _ _ _ _ _ _ e _ _ _ _ l r c.fill_runs.ensures in
    record { planned = e; lefts = q.0; rights = q.1 }
