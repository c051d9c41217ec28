use Rattle.meaning_numbers.proofs.Prelude.{◌*◌, ◌/◌, ◌≤◌, arith}
use Rattle.sums_count.proofs as own
use own.Tally.{half-or-none, sought-half}
use Rattle.sums_count.proofs.find_number.Goals as goal

-- what is added is at most a half
module _ (c : goal.After-at_most) where
  added : (c.loop-size.size / 2) * c.at_most.result ≤ c.loop-size.size / 2
  added = half-or-none _ _ _ c.at_most.ensures

pub overflow_mul-lo : goal.overflow_mul-lo
overflow_mul-lo c = omega (arith, added c)

pub overflow_add-lo : goal.overflow_add-lo
overflow_add-lo c = omega (arith, added c)

pub loop-size-preserved : goal.loop-size-preserved
loop-size-preserved c = sought-half c.requires.rising (omega arith) (omega arith) c.at_most.ensures c.loop-size.invariant
