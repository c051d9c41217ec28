-- `pass_back`. The invariant: the pass is made from the end as far as place i (`BackTo`).
use Rattle.meaning_numbers.proofs.Prelude.{◌≤◌, min, length}
use Rattle.distance_envelope.proofs as own
use own.Pass.{BackTo}
use Rattle.distance_envelope.proofs.pass_back.Given as goal

abbrev pub invariant-loop-i : goal.invariant-loop-i
invariant-loop-i l = (min l.d (length l.initial.out) ≤ l.i) × BackTo l.low l.d l.i l.initial.out l.out
