-- `straight`. The invariant: so much of the sum is made. A block adds its part; left early, the total is a part of the distance (`Made`).
use Rattle.meaning_numbers.proofs.Prelude.{◌≡◌, ◌-◌, ◌≤◌, length}
use Rattle.meaning_curves.specs.{Curve.at, Curve.stretch, Straight.cost}
use Rattle.numbers.proofs.Blocks.{Made}
use Rattle.distance_straight.proofs.straight.Given as goal

abbrev pub invariant-loop-i : goal.invariant-loop-i
invariant-loop-i l = (l.i ≤ l.m) × (l.m ≡ length l.q) × Made (λ k. cost (stretch l.s l.from k) (at l.q k)) 400000000 l.i l.total

abbrev pub decreases-loop-i : goal.decreases-loop-i
decreases-loop-i l = l.m - l.i
