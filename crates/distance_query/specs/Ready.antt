-- What depends on the query alone and is made once (`Ready`): the curve that stretches are compared with, its envelopes, and the query's raised sum and spread.
use Rattle.std.specs.Prelude.{ℕ, ℤ, length, List, ◌≡◌}
use Rattle.meaning_numbers.specs.Sum.{Σℕ}
use Rattle.meaning_curves.specs.{Curve.at, Curve.stretch, Curve.spread, Normal.normalised}
use Rattle.meaning_curves.proofs.{Values.AllIn, Same.Same}
use Rattle.meaning_filter.specs.{declared.Kind.Kind, declared.Kind.TheVariants.Raw, declared.Kind.TheVariants.Normal}
use Rattle.numbers.specs.Raised.{raised}
pub use Rattle.distance_envelope.specs.Envelope.{Envelopes}

-- the curve that stretches are compared with: the query, or its normalised values
abbrev pub curve_of : Kind → (ℕ → ℤ) → ℕ → ℕ → ℤ
curve_of Raw q m = q
curve_of Normal q m = normalised q m

-- such a curve in a list
pub record IsCurve (kind : Kind) (q curve : List ℤ) : Type 0 where
  pub long : length curve ≡ length q
  pub same : Same (length q) (at curve) (curve_of kind (at q) (length q))
  pub inside : AllIn curve

-- of the raised sum p and the spread A
pub record Ready (kind : Kind) (q : List ℤ) (b : ℕ) (curve low high : List ℤ) (p A : ℕ) : Type 0 where
  pub curve-is : IsCurve kind q curve
  pub envelopes : Envelopes curve (length q) b low high
  pub values : p ≡ Σℕ (length q) (λ k. raised (stretch q 0 k))
  pub spread : A ≡ spread (at q) (length q)
