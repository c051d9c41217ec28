-- `make_plan`. By what the text comes to.
use mathlib.Core.Path.{refl, ap, ◌∙◌}
use Rattle.entry_read.specs.Plan.{plan_scanned}
use Rattle.entry_read.proofs.make_plan.Goals as goal

pub returns-in-Err : goal.returns-in-Err
unfolding plan_scanned
returns-in-Err c = rw (c.at.ensures, c.bad_line.ensures) refl ∙ ap (plan_scanned c.args.text.now c.args.rows c.args.runs) c.in-Err.ensures

pub returns-in-Ok : goal.returns-in-Ok
unfolding plan_scanned
returns-in-Ok c = c.plan_fine.ensures ∙ ap (plan_scanned c.args.text.now c.args.rows c.args.runs) c.in-Ok.ensures
