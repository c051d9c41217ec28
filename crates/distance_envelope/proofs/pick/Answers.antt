-- `pick`, by its test.
use Rattle.meaning_numbers.proofs.Prelude.{w32}
use Rattle.numbers.proofs.Order.{min-back, max-back}
use Rattle.distance_envelope.proofs.pick.Goals as goal

pub returns-then-low : goal.returns-then-low
returns-then-low c = rw c.if-low.true (min-back w32 c.ranges.x c.ranges.y c.min.ensures.value)

pub returns-else-low : goal.returns-else-low
returns-else-low c = rw c.if-low.false (max-back w32 c.ranges.x c.ranges.y c.max.ensures.value)
