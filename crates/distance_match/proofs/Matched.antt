-- Laws of specs/Matched.
use Rattle.meaning_numbers.proofs.Prelude.{◌≡◌, refl, ℕ, ℤ}
use Rattle.meaning_curves.specs.Match.{distance, raw_match}
use Rattle.meaning_filter.specs.{declared.Kind.TheVariants.Raw, declared.Limits.Limits, Matches.matches, Matches.distance_to}
use Rattle.distance_within.specs.Answer.{nearness}
use Rattle.distance_match.specs.Matched.{matched}

-- of a raw query the distance decides
pub raw-matched : (s q : ℕ → ℤ) (m : ℕ) (l : Limits) → nearness (distance s q l.band m) l.threshold ≡ matched Raw s q m l
unfolding matched matches distance_to raw_match
raw-matched s q m l = refl
