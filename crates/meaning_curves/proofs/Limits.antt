-- The first value outside its limits: `first_outside` answers its place exactly if it is that (`outside-is`, `is-outside`), and nothing exactly if every value is inside (`values-in`, `in-values`). From the laws of the first place.
use Rattle.meaning_numbers.specs.Order.{within}
use Rattle.meaning_numbers.proofs.Place.{place_is, none_is, is-place, is_none}
use Rattle.meaning_numbers.proofs.Prelude.{◌≡◌, not, List, None, Some, ℕ, ◌<◌, arith, dec_le, T, ℤ, pos, length, List·get_d-eq-default, not-not, yes-not-not}
use Rattle.meaning_curves.specs.{Curve.at, Limits.value_in, Limits.first_outside}

-- p is the place of the first value outside
pub record Outside (s : List ℤ) (p : ℕ) : Type 0 where
  pub there : p < length s
  pub outside : T (not (value_in (at s p)))
  pub before : (j : ℕ) → j < p → T (value_in (at s j))

pub is-outside : {s : List ℤ} {p : ℕ} → first_outside s ≡ Some p → Outside s p
unfolding first_outside
is-outside {s} e =
    let f = is-place (λ x. not (value_in x)) (pos 0) e in
    record { there = f.inside; outside = f.passes; before = λ j h. not-not (value_in _) (f.before j h) }

pub outside-is : {s : List ℤ} {p : ℕ} → Outside s p → first_outside s ≡ Some p
unfolding first_outside
outside-is {s} f = place_is (λ x. not (value_in x)) (pos 0) (record { inside = f.there; passes = f.outside; before = λ j h. yes-not-not (value_in _) (f.before j h) })

-- every value is inside; what stands past the end is 0, which is inside too
pub values-in : (s : List ℤ) → first_outside s ≡ None → (j : ℕ) → T (value_in (at s j))
unfolding first_outside within
values-in s e j = elim (dec_le (length s) j) [
  | yes h ↦ rw (List·get_d-eq-default s (pos 0) h) tt
  | no f ↦ not-not (value_in (at s j)) ((is_none (λ x. not (value_in x)) (pos 0) e).fails j (omega arith))
]

pub in-values : (s : List ℤ) → ((j : ℕ) → j < length s → T (value_in (at s j))) → first_outside s ≡ None
unfolding first_outside
in-values s f = none_is (λ x. not (value_in x)) (pos 0) (record { fails = λ j h. yes-not-not (value_in _) (f j h) })
