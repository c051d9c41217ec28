-- `part`. The invariant: the sum so far.
use Rattle.meaning_numbers.specs.Sum.{Σℕ}
use Rattle.meaning_numbers.proofs.Prelude.{◌≡◌, ◌+◌, ◌*◌, ◌≤◌}
use Rattle.meaning_curves.specs.{Curve.at, Curve.stretch, Straight.cost}
use Rattle.distance_straight.proofs.part.Given as goal

abbrev pub invariant-loop-k : goal.invariant-loop-k
invariant-loop-k l = (l.sum ≤ 400000000 * l.k) × (l.sum ≡ Σℕ l.k (λ k. cost (stretch l.s l.from (l.p + k)) (at l.q (l.p + k))))
