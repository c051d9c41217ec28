-- `normalise_within`. The invariant: so many values are normalised, and so much of their bound is made. A block adds its part (`part-more`); left early, the total is a part of the bound.
use Rattle.meaning_numbers.proofs.Prelude.{◌-◌, ◌≤◌}
use Rattle.meaning_curves.specs.{Curve.at, Curve.stretch, Normal.normalised}
use Rattle.meaning_filter.proofs.Bound.{apart}
use Rattle.numbers.proofs.Blocks.{Made}
use Rattle.distance_within.proofs as own
use own.Within.{NormalTo}
use Rattle.distance_within.proofs.normalise_within.Given as goal

abbrev pub invariant-loop-i : goal.invariant-loop-i
invariant-loop-i l = (l.i ≤ l.m) × NormalTo (stretch l.s l.from) l.m l.i l.out × Made (apart (normalised (stretch l.s l.from) l.m) (at l.low) (at l.high)) 400000000 l.i l.total

abbrev pub decreases-loop-i : goal.decreases-loop-i
decreases-loop-i l = l.m - l.i
