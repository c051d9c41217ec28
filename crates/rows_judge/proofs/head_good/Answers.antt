-- `head_good`: its tests are those of the definition.
use Rattle.meaning_numbers.specs.Order.{within}
use Rattle.meaning_numbers.proofs.Prelude.{rules}
use Rattle.meaning_rows.specs.Judge.{head_good}
use Rattle.rows_judge.proofs.head_good.Goals as goal

pub returns : goal.returns
unfolding within head_good
returns c = search rules
