-- `find_number`. The invariant: wherever the number stands, it is one of the places left (`sought-half`).
use Rattle.sums_count.proofs as own
use own.Tally.{Sought}
use Rattle.sums_count.proofs.find_number.Given as goal

abbrev pub invariant-loop-size : goal.invariant-loop-size
invariant-loop-size l = Sought l.numbers l.count l.k l.lo l.size

abbrev pub decreases-loop-size : goal.decreases-loop-size
decreases-loop-size l = l.size
