use Rattle.meaning_numbers.proofs.Prelude.{arith}
use Rattle.distance_envelope.proofs as own
use own.Pass.{ahead-pass}
use Rattle.distance_envelope.proofs.reach_ahead.Goals as goal

pub loop-n-preserved : goal.loop-n-preserved
loop-n-preserved c = (omega arith, ahead-pass c.loop-n.invariant.1 c.pass_ahead.ensures (omega arith))
