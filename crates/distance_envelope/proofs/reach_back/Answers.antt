use Rattle.meaning_numbers.proofs.Prelude.{arith}
use Rattle.distance_envelope.proofs as own
use own.Pass.{back-pass}
use Rattle.distance_envelope.proofs.reach_back.Goals as goal

pub loop-n-preserved : goal.loop-n-preserved
loop-n-preserved c = (omega arith, back-pass c.loop-n.invariant.1 c.pass_back.ensures (omega arith))
