-- `count_runs`. A turn counts one run more; the loop may be left where the limit is passed.
use Rattle.text_count.proofs as own
use own.Count.{runs-start, runs-turn, runs-end, runs_past}
use Rattle.text_count.proofs.count_runs.Goals as goal

pub loop-i-init : goal.loop-i-init
loop-i-init c = runs-start _ _ _ _ _ _ _ _ c.part_length-n.ensures c.advance-to.ensures

pub loop-i-preserved : goal.loop-i-preserved
loop-i-preserved c = runs-turn c.loop-i.invariant c.loop-i-test.true c.count_run-to.ensures

pub returns-after-loop-i : goal.returns-after-loop-i
returns-after-loop-i c = runs-end c.loop-i.invariant c.loop-i-test.false

pub returns-then-limit-to : goal.returns-then-limit-to
returns-then-limit-to c = runs_past c.loop-i.invariant c.if-limit-to.true
