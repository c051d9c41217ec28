-- `query_length_outside`: its tests are those of the definition.
use Rattle.meaning_numbers.specs.Order.{within}
use Rattle.meaning_numbers.proofs.Prelude.{rules}
use Rattle.refusals.proofs.query_length_outside.Goals as goal

pub returns : goal.returns
unfolding within
returns c = search rules
