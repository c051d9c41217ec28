-- `factor` meets its contract.
use Rattle.distance_normal.proofs as own
use own.Normal.{factor-is}
use Rattle.distance_normal.proofs.factor.Goals as goal

pub returns : goal.returns
returns c = rw c.root.ensures (factor-is c.requires)
