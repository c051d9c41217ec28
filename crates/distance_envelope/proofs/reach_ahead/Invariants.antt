-- `reach_ahead`. The invariant: each value is the best of n places ahead and itself (`Ahead`).
use Rattle.meaning_numbers.proofs.Prelude.{◌-◌, ◌≤◌}
use Rattle.distance_envelope.specs.Pass.{Ahead}
use Rattle.distance_envelope.proofs.reach_ahead.Given as goal

abbrev pub invariant-loop-n : goal.invariant-loop-n
invariant-loop-n l = (l.n ≤ l.b) × Ahead l.low l.n l.initial.out l.out

abbrev pub decreases-loop-n : goal.decreases-loop-n
decreases-loop-n l = l.b - l.n
