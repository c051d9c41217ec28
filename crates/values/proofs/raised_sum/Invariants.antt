-- `raised_sum`. The invariant: the sum so far.
use Rattle.meaning_numbers.specs.Sum.{Σℕ}
use Rattle.meaning_numbers.proofs.Prelude.{◌≡◌, ◌*◌, ◌≤◌}
use Rattle.meaning_curves.specs.Curve.{stretch}
use Rattle.numbers.specs.Raised.{raised}
use Rattle.values.proofs.raised_sum.Given as goal

abbrev pub invariant-loop-k : goal.invariant-loop-k
invariant-loop-k l = (l.sum ≤ 20000 * l.k) × (l.sum ≡ Σℕ l.k (λ k. raised (stretch l.s l.from k)))
