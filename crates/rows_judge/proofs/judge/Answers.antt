-- `judge`: the head is judged, and then row after row, up to the first bad one.
use Rattle.meaning_numbers.proofs.Prelude.{sym, ◌∙◌}
use Rattle.rows_judge.proofs.Outcome.{judging-starts, judging-unstarted, judging-next, judging-stops, judging-ends}
use Rattle.rows_judge.proofs.judge.Goals as goal

pub returns-in_default : goal.returns-in_default
returns-in_default c = judging-unstarted _ _ _ _ (sym c.judge_head.ensures ∙ c.in_default.is)

pub loop-k-init : goal.loop-k-init
loop-k-init c = judging-starts _ _ _ _ (sym c.judge_head.ensures ∙ c.in-Some.is)

pub returns-in_default-judge_row : goal.returns-in_default-judge_row
returns-in_default-judge_row c = judging-stops _ _ _ _ c.loop-k.invariant c.row_at.ensures c.loop-k-test.true (sym c.judge_row.ensures ∙ c.in_default-judge_row.is)

pub loop-k-preserved : goal.loop-k-preserved
loop-k-preserved c = judging-next _ _ _ _ c.loop-k.invariant c.row_at.ensures c.loop-k-test.true (sym c.judge_row.ensures ∙ c.in-Some-judge_row.is)

pub returns : goal.returns
returns c = judging-ends _ _ _ _ c.loop-k.invariant c.loop-k-test.false
