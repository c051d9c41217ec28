-- `reach_back`. The invariant: each value is the best of n places back and itself (`Back`).
use Rattle.meaning_numbers.proofs.Prelude.{◌-◌, ◌≤◌}
use Rattle.distance_envelope.specs.Pass.{Back}
use Rattle.distance_envelope.proofs.reach_back.Given as goal

abbrev pub invariant-loop-n : goal.invariant-loop-n
invariant-loop-n l = (l.n ≤ l.b) × Back l.low l.n l.initial.out l.out

abbrev pub decreases-loop-n : goal.decreases-loop-n
decreases-loop-n l = l.b - l.n
