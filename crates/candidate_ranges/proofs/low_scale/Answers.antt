-- `low_scale` meets its contract.
use Rattle.meaning_numbers.proofs.Prelude.{arith, ◌≤◌}
use Rattle.numbers.proofs.Small.{small_pos, small-fits, cast-back}
use Rattle.candidate_ranges.proofs as own
use own.Sizes.{low-scale-le}
use Rattle.candidate_ranges.proofs.low_scale.Goals as goal

small : (c : goal.After-root) → c.root.result ≤ 204800000
small c = omega (arith, c.root.ensures, low-scale-le _ c.args.a c.requires.0)

pub overflow_cast-result : goal.overflow_cast-result
overflow_cast-result c = small-fits (omega arith) (small_pos 204800000 _ (small c))

pub returns : goal.returns
returns c = rw (cast-back _ (omega arith) (small c), c.root.ensures)
