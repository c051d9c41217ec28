-- `normalise_part`. The invariant: the values so far are normalised, and those before stay.
use Rattle.meaning_curves.specs.{Curve.stretch}
use Rattle.distance_normal.specs.Stretch.{NormalPart}
use Rattle.distance_normal.proofs.normalise_part.Given as goal

abbrev pub invariant-loop-k : goal.invariant-loop-k
invariant-loop-k l = NormalPart (stretch l.s l.from) l.m l.p l.k l.initial.out l.out
