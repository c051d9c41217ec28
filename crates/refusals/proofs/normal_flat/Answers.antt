-- `normal_flat`, by the kind.
use Rattle.refusals.proofs as own
use own.Flat.{raw-flat, normal-is-flat}
use Rattle.refusals.proofs.normal_flat.Goals as goal

pub returns-in-Raw : goal.returns-in-Raw
returns-in-Raw c = raw-flat _ c.in-Raw.is

pub returns-in-Normal : goal.returns-in-Normal
returns-in-Normal c = normal-is-flat _ c.in-Normal.is c.is_flat.ensures
