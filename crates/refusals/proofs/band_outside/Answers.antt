-- `band_outside` (`band-is`).
use Rattle.refusals.proofs as own
use own.Tests.{band-is}
use Rattle.refusals.proofs.band_outside.Goals as goal

pub returns : goal.returns
returns c = band-is c.args.m c.args.band
