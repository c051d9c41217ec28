-- `envelope_bound`. The invariant: so much of the sum is made. A block adds its part; left early, the total is a part of the bound (`Made`).
use Rattle.meaning_numbers.proofs.Prelude.{◌≡◌, ◌-◌, ◌≤◌, length}
use Rattle.meaning_curves.specs.Curve.{at, stretch}
use Rattle.meaning_filter.proofs.{Bound.apart}
use Rattle.numbers.proofs.Blocks.{Made}
use Rattle.distance_bound.proofs.envelope_bound.Given as goal

abbrev pub invariant-loop-i : goal.invariant-loop-i
invariant-loop-i l = (l.i ≤ l.m) × (l.m ≡ length l.low) × Made (apart (stretch l.s l.from) (at l.low) (at l.high)) 400000000 l.i l.total

abbrev pub decreases-loop-i : goal.decreases-loop-i
decreases-loop-i l = l.m - l.i
