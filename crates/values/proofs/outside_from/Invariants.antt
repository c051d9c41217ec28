-- `outside_from`. The invariant: every value before the place is in its limits.
use Rattle.values.specs.Place.{InTo}
use Rattle.values.proofs.outside_from.Given as goal

abbrev pub invariant-loop-i : goal.invariant-loop-i
invariant-loop-i l = InTo l.s l.i
