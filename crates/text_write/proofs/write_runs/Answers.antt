-- `write_runs`. A turn puts one run more.
use Rattle.text_put.proofs.Put.{put_then, put-stays}
use Rattle.text_write.proofs.Write.{runs-start, runs-turn, runs-end}
use Rattle.text_write.proofs.write_runs.Goals as goal

pub loop-i-init : goal.loop-i-init
loop-i-init c = runs-start _ _ _ _ _ _ _ _ _ c.part_length-n.ensures (put-stays c.put_word-to.ensures)

pub loop-i-preserved : goal.loop-i-preserved
loop-i-preserved c = runs-turn c.loop-i.invariant c.loop-i-test.true c.write_run-to.ensures

pub returns : goal.returns
returns c = put_then c.put_word-to.ensures (runs-end c.loop-i.invariant c.loop-i-test.false)
