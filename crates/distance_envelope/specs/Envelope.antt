-- An envelope as it stands in a list, and the two envelopes of a curve, which are in the limits of values where the curve is.
use Rattle.std.specs.Prelude.{ℕ, ◌<◌, ℤ, length, List, ◌≡◌}
use Rattle.meaning_curves.specs.Curve.{at}
use Rattle.meaning_filter.specs.Envelope.{lower, upper}

pub record IsEnvelope (f : ℕ → ℤ) (m : ℕ) (out : List ℤ) : Type 0 where
  pub long : length out ≡ m
  pub at : (k : ℕ) → k < m → at out k ≡ f k

-- the envelopes of a curve of m values at the band b
pub record Envelopes (curve : List ℤ) (m b : ℕ) (low high : List ℤ) : Type 0 where
  pub below : IsEnvelope (lower (at curve) m b) m low
  pub above : IsEnvelope (upper (at curve) m b) m high
