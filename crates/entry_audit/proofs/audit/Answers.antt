-- `audit`: the index is judged and the audit planned; then chunk after chunk of the rows is audited, up to the first offset that is filed wrongly, and the audit answers.
use Rattle.std.specs.Prelude.{Ok, Err, None}
use Rattle.meaning_numbers.proofs.Prelude.{◌≡◌, sym, ap, ◌∙◌, subst, arith, ◌+◌, ◌*◌, ◌<◌, ◌^◌, rules}
use Rattle.meaning_entries.specs.{Audit.lent_audit, Demand2.AuditKept}
use Rattle.entry_audit.specs.Plan.{plan_of}
use Rattle.entry_audit.proofs.Going.{stopped, going-starts, going-ready, going-next, going-stops, going-ends, ended}
use Rattle.entry_audit.proofs.audit.Goals as goal

pub returns-in_err-lacking : goal.returns-in_err-lacking
returns-in_err-lacking c =
    let a = c.args in
    let e : c.from_residual.result ≡ Err c.in_err-lacking.field-0.0 = search rules in
    subst (AuditKept (lent_audit a.series.now a.head a.rows.now a.left.now a.right.now)) (sym e)
    (stopped a.series.now a.head a.rows.now a.left.now a.right.now (sym (c.make_plan.ensures ∙ ap (plan_of a.series.now a.head) c.judge.ensures) ∙ c.in_err-lacking.was))

pub loop-n-init : goal.loop-n-init
loop-n-init c = going-starts _ _ _ _ _

pub audit_chunk-wrong-requires : goal.audit_chunk-wrong-requires
audit_chunk-wrong-requires c =
    let a = c.args in
    let far : c.loop-n.n * 64 + 64 < 2 ^ 64 = omega arith in
    going-ready a.series.now a.head a.rows.now a.left.now a.right.now (sym (c.make_plan.ensures ∙ ap (plan_of a.series.now a.head) c.judge.ensures) ∙ c.in_ok-lacking.was) c.chunk_at-chunk.ensures far

pub returns-then-is_some : goal.returns-then-is_some
returns-then-is_some c =
    let a = c.args in
    ended a.series.now a.head a.rows.now a.left.now a.right.now (sym (c.make_plan.ensures ∙ ap (plan_of a.series.now a.head) c.judge.ensures) ∙ c.in_ok-lacking.was) _
    (going-stops a.series.now a.head a.rows.now a.left.now a.right.now c.loop-n.invariant c.chunk_at-chunk.ensures c.audit_chunk-wrong.ensures (sym c.is_some.ensures ∙ c.if-is_some.true))
    (ap (λ x. Ok x) c.answer.ensures)

pub loop-n-preserved : goal.loop-n-preserved
loop-n-preserved c =
    let a = c.args in
    going-next a.series.now a.head a.rows.now a.left.now a.right.now c.loop-n.invariant c.chunk_at-chunk.ensures c.audit_chunk-wrong.ensures (sym c.is_some.ensures ∙ c.if-is_some.false)

pub returns : goal.returns
returns c =
    let a = c.args in
    ended a.series.now a.head a.rows.now a.left.now a.right.now (sym (c.make_plan.ensures ∙ ap (plan_of a.series.now a.head) c.judge.ensures) ∙ c.in_ok-lacking.was) None
    (going-ends a.series.now a.head a.rows.now a.left.now a.right.now c.loop-n.invariant (omega (arith, c.loop-n-test.false, c.div_ceil-n-end.ensures)))
    (ap (λ x. Ok x) c.answer-2.ensures)
