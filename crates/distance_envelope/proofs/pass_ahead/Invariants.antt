-- `pass_ahead`. The invariant: the pass is made as far as place i (`AheadTo`).
use Rattle.distance_envelope.proofs as own
use own.Pass.{AheadTo}
use Rattle.distance_envelope.proofs.pass_ahead.Given as goal

abbrev pub invariant-loop-i : goal.invariant-loop-i
invariant-loop-i l = AheadTo l.low l.d l.i l.initial.out l.out
