-- `count_outside`. The invariant: the count so far.
use Rattle.meaning_numbers.specs.Sum.{count}
use Rattle.meaning_numbers.proofs.Prelude.{◌≡◌, not}
use Rattle.meaning_curves.specs.{Curve.stretch, Limits.value_in}
use Rattle.values.proofs.count_outside.Given as goal

abbrev pub invariant-loop-k : goal.invariant-loop-k
invariant-loop-k l = l.found ≡ count (λ j. not (value_in (stretch l.s l.from j))) l.k
