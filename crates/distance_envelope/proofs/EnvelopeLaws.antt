-- Laws of specs/Envelope.
use Rattle.meaning_numbers.proofs.Prelude.{List, ℕ, ◌<◌, arith, ℤ}
use Rattle.meaning_curves.specs.Curve.{at}
use Rattle.meaning_curves.proofs.Values.{AllIn, all_in}
use Rattle.meaning_filter.proofs.Envelope.{lower-one, upper-one}
use Rattle.distance_envelope.specs.Envelope.{Envelopes}

pub low-in : {curve low high : List ℤ} {m b : ℕ} → AllIn curve → Envelopes curve m b low high → AllIn low
low-in {curve} {low} {m = m} {b} h e =
    all_in low (λ k l. let i : k < m = omega arith in let o = lower-one (at curve) m b k i in rw (e.below.at k i, o.3) (h.at o.0))

pub high-in : {curve low high : List ℤ} {m b : ℕ} → AllIn curve → Envelopes curve m b low high → AllIn high
high-in {curve} {high = high} {m} {b} h e =
    all_in high (λ k l. let i : k < m = omega arith in let o = upper-one (at curve) m b k i in rw (e.above.at k i, o.3) (h.at o.0))
