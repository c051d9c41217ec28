-- `envelope_part`. The invariant: the sum so far.
use Rattle.meaning_numbers.specs.Sum.{Σℕ}
use Rattle.meaning_numbers.proofs.Prelude.{◌≡◌, ◌+◌, ◌*◌, ◌≤◌}
use Rattle.meaning_curves.specs.Curve.{at, stretch}
use Rattle.meaning_filter.proofs.{Bound.apart}
use Rattle.distance_bound.proofs.envelope_part.Given as goal

abbrev pub invariant-loop-k : goal.invariant-loop-k
invariant-loop-k l = (l.sum ≤ 400000000 * l.k) × (l.sum ≡ Σℕ l.k (λ k. apart (stretch l.s l.from) (at l.low) (at l.high) (l.p + k)))
