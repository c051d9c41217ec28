-- `put_word`. A turn puts one byte more of the word.
use Rattle.text_put.proofs.Put.{put-turn}
use Rattle.text_put.proofs.put_word.Goals as goal

pub loop-b-preserved : goal.loop-b-preserved
loop-b-preserved c = put-turn c.args.word.now c.loop-b.b-index c.loop-b-test.true c.loop-b.invariant c.put_byte-to.ensures
