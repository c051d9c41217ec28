-- `scale_or_shift_outside` (`from_zero`).
use Rattle.meaning_numbers.specs.Order.{within}
use Rattle.meaning_numbers.proofs.Prelude.{ap, not, ◌||◌, pos}
use Rattle.meaning_curves.specs.Limits.{scale_in}
use Rattle.refusals.proofs as own
use own.Tests.{from_zero}
use Rattle.refusals.proofs.scale_or_shift_outside.Goals as goal

pub returns : goal.returns
unfolding within
returns c = ap (λ t. not (scale_in (pos c.args.scale)) || not t) (from_zero 20000 c.args.shift)
