-- `high_scale` meets its contract.
use Rattle.meaning_numbers.proofs.Prelude.{arith, ◌+◌, ◌≤◌}
use Rattle.numbers.proofs.Small.{small_pos, small-fits, cast-back}
use Rattle.candidate_ranges.proofs as own
use own.Sizes.{high-scale-le}
use Rattle.candidate_ranges.proofs.high_scale.Goals as goal

small : (c : goal.After-root) → c.root.result + 1 ≤ 204800001
small c = omega (arith, c.root.ensures, high-scale-le _ _ c.requires.0 c.requires.1)

pub overflow_add-result : goal.overflow_add-result
overflow_add-result c = omega (arith, small c)

pub overflow_cast-result : goal.overflow_cast-result
overflow_cast-result c = small-fits (omega arith) (small_pos 204800001 _ (small c))

pub returns : goal.returns
returns c = rw (cast-back _ (omega arith) (small c), c.root.ensures)
