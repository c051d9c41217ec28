-- `threshold_outside` (`from_zero`).
use Rattle.meaning_numbers.proofs.Prelude.{ap, not}
use Rattle.refusals.proofs as own
use own.Tests.{from_zero}
use Rattle.refusals.proofs.threshold_outside.Goals as goal

pub returns : goal.returns
returns c = ap not (from_zero 1000000000000 _)
