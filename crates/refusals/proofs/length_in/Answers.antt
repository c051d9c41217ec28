-- `length_in`: its two tests are those of the definition.
use Rattle.meaning_numbers.specs.Order.{within}
use Rattle.meaning_numbers.proofs.Prelude.{rules}
use Rattle.refusals.proofs.length_in.Goals as goal

pub returns : goal.returns
unfolding within
returns c = search rules
