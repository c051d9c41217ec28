use Rattle.std.proofs.Common.{arith}
use Rattle.clear.proofs as own
use own.Cleared.{clear_next, clear-ends}
use Rattle.clear.proofs.clear.Goals as goal

pub loop-i-preserved : goal.loop-i-preserved
loop-i-preserved g c = clear_next _ (omega (arith, c.loop-i.invariant.long)) c.loop-i.invariant

pub returns : goal.returns
returns g c = clear-ends _ (omega (arith, c.loop-i.invariant.long)) c.loop-i.invariant
