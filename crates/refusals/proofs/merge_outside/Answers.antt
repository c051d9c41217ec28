-- `merge_outside` (`from_zero`).
use Rattle.meaning_numbers.proofs.Prelude.{ap, not}
use Rattle.refusals.proofs as own
use own.Tests.{from_zero}
use Rattle.refusals.proofs.merge_outside.Goals as goal

pub returns : goal.returns
returns c = ap not (from_zero 100 _)
