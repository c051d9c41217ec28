-- `sums_at`. The invariant: both sums so far.
use Rattle.meaning_numbers.specs.Sum.{Σℕ, square}
use Rattle.meaning_numbers.proofs.Prelude.{◌≡◌, ◌*◌, ◌≤◌}
use Rattle.meaning_curves.specs.Curve.{stretch}
use Rattle.numbers.specs.Raised.{raised}
use Rattle.values.proofs.sums_at.Given as goal

abbrev pub invariant-loop-k : goal.invariant-loop-k
invariant-loop-k l = (l.values ≤ 20000 * l.k) × (l.squares ≤ 400000000 * l.k) × (l.values ≡ Σℕ l.k (λ k. raised (stretch l.s l.from k))) × (l.squares ≡ Σℕ l.k (λ k. square (raised (stretch l.s l.from k))))
