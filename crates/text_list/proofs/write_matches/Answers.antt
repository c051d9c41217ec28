-- `write_matches`. A turn puts one match more.
use Rattle.text_put.proofs.Put.{put_then, put-stays}
use Rattle.text_list.proofs.Found.{matches-start, matches-turn, matches-end}
use Rattle.text_list.proofs.write_matches.Goals as goal

pub loop-i-init : goal.loop-i-init
loop-i-init c = matches-start _ _ _ _ _ _ _ _ c.part_length-n.ensures (put-stays c.put_word-to.ensures)

pub loop-i-preserved : goal.loop-i-preserved
loop-i-preserved c = matches-turn c.loop-i.invariant c.loop-i-test.true c.write_match-to.ensures

pub returns : goal.returns
returns c = put_then c.put_word-to.ensures (matches-end c.loop-i.invariant c.loop-i-test.false)
