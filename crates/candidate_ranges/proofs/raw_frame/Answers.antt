-- `raw_frame` meets its contract.
use Rattle.meaning_numbers.proofs.Prelude.{arith, ◌≤◌}
use Rattle.numbers.proofs.Small.{small_pos, small-fits, cast-back}
use Rattle.candidate_ranges.proofs as own
use own.Sizes.{reach-le}
use Rattle.candidate_ranges.proofs.raw_frame.Goals as goal

reach : (c : goal.After-root) → c.root.result ≤ 16000000
reach c = omega (arith, c.root.ensures, reach-le _ _ c.requires.0 c.requires.1)

pub overflow_cast-result : goal.overflow_cast-result
overflow_cast-result c = small-fits (omega arith) (small_pos 16000000 _ (reach c))

pub returns : goal.returns
returns c = rw (cast-back _ (omega arith) (reach c), c.root.ensures)
