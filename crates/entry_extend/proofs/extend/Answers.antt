-- `extend`: a plan that refuses leaves the buffers as they were.
use Rattle.std.proofs.Common.{◌≡◌, sym, ◌∙◌, rules}
use Rattle.meaning_entries.specs.Buffers.{index_buffers}
use Rattle.entry_extend.proofs.Stages.{plan-here, stops}
use Rattle.entry_extend.proofs.extend.Goals as goal

pub returns-in_err-make_plan : goal.returns-in_err-make_plan
returns-in_err-make_plan c =
    let a = c.args in
    stops a.series.now a.head a.from.now a.lefts.now a.rights.now (index_buffers a.rows.now a.left.now a.right.now) c.judge-judged.ensures c.min.ensures c.make_plan.ensures c.in_err-make_plan.was (search rules)

pub extend_planned-requires : goal.extend_planned-requires
extend_planned-requires c =
    let a = c.args in
    sym (plan-here a.series.now a.head a.from.now a.lefts.now a.rights.now (index_buffers a.rows.now a.left.now a.right.now) c.judge-judged.ensures c.min.ensures c.make_plan.ensures) ∙ c.in_ok-make_plan.was
