-- `in_limits`, by its first test.
use Rattle.meaning_numbers.specs.Order.{within}
use Rattle.meaning_numbers.proofs.Prelude.{w32, to_z-of_z}
use Rattle.numbers.proofs.in_limits.Goals as goal

pub returns-then-x-ge-LEAST_VALUE : goal.returns-then-x-ge-LEAST_VALUE
unfolding within
returns-then-x-ge-LEAST_VALUE c =
    let same = to_z-of_z w32 c.args.x c.ranges.x in
    let e = rw same at c.if-x-ge-LEAST_VALUE.true in
    rw (same, e)

pub returns-else-x-ge-LEAST_VALUE : goal.returns-else-x-ge-LEAST_VALUE
unfolding within
returns-else-x-ge-LEAST_VALUE c =
    let same = to_z-of_z w32 c.args.x c.ranges.x in
    let e = rw same at c.if-x-ge-LEAST_VALUE.false in
    rw (same, e)
