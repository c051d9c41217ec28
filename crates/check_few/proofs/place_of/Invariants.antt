-- `place_of` (`looking-up`, `looking-down`, `looking-ends`). The measure is how far the two ends are apart.
use Rattle.meaning_numbers.proofs.Prelude.{◌-◌}
use Rattle.check_few.proofs as own
use own.Place.{Looking}
use Rattle.check_few.proofs.place_of.Given as goal

abbrev pub invariant-loop-low : goal.invariant-loop-low
invariant-loop-low l = Looking l.distances l.n l.d l.low l.high

abbrev pub decreases-loop-low : goal.decreases-loop-low
decreases-loop-low l = l.high - l.low
