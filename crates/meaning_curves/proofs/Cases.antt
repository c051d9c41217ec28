-- Small cases of the definitions, in one table that one proof covers.
use Rattle.meaning_numbers.specs.Place.{numbers_from}
use Rattle.meaning_numbers.proofs.Table.{holds, sameℤ, same_list}
use Rattle.meaning_numbers.proofs.Prelude.{Bool, false, not, ◌&&◌, List, [], ◌∷◌, map, Option, None, Some, ℕ, T, eqb, ℤ, pos, negsuc, ◌+ℤ◌, ◌-ℤ◌, length}
use Rattle.meaning_curves.specs.Limits.{length_in, value_in, window_in, width_in, merge_in, query_length_in, band_in, threshold_in, scale_in, shift_in, windows_in, end_in, first_outside}
use Rattle.meaning_curves.specs.{Curve.at, Curve.window_sum, Curve.spread, Normal.normalised, Match.distance, Match.raw_match, Match.normal_match}
use Rattle.meaning_curves.proofs.Open.{open_curves}

-- the place is p
is_at : Option ℕ → ℕ → Bool
is_at None p = false
is_at (Some k) p = eqb k p

-- the normalised values of a list
normals : List ℤ → List ℤ
normals l = map (normalised (at l) (length l)) (numbers_from 0 (length l))

is_normal : List ℤ → List ℤ → Bool
is_normal l n = same_list sameℤ (normals l) n

-- the distance of two lists of the same length
is_distance : List ℤ → List ℤ → ℕ → ℕ → Bool
is_distance l q b d = eqb (distance (at l) (at q) b (length l)) d

-- a limit holds at both its ends and not beside them
ends : (ℤ → Bool) → ℤ → ℤ → Bool
ends p low high = p low && (p high && (not (p (low -ℤ pos 1)) && not (p (high +ℤ pos 1))))

cases : List Bool
cases =
    ends value_in (negsuc 9999) (pos 10000)
    ∷ ends window_in (pos 1) (pos 256)
    ∷ ends width_in (pos 1) (pos 1000000)
    ∷ ends merge_in (pos 0) (pos 100)
    ∷ ends (band_in 7) (pos 0) (pos 6)
    ∷ ends threshold_in (pos 0) (pos 1000000000000)
    ∷ ends scale_in (pos 10) (pos 100)
    ∷ ends shift_in (pos 0) (pos 20000)
    ∷ ends windows_in (pos 1) (pos 1048576)
    ∷ ends end_in (negsuc 3999999) (pos 4000000)
    ∷ (length_in 4096 1 && (length_in 4096 4096 && (not (length_in 4096 0) && not (length_in 4096 4097))))
    ∷ (query_length_in 1 && (query_length_in 1024 && (not (query_length_in 0) && not (query_length_in 1025))))
    ∷ is_normal (pos 0 ∷ pos 0 ∷ pos 1 ∷ []) (negsuc 69 ∷ negsuc 69 ∷ pos 141 ∷ [])
    ∷ is_normal (pos 1 ∷ pos 3 ∷ []) (negsuc 99 ∷ pos 100 ∷ [])
    ∷ is_distance (pos 0 ∷ pos 0 ∷ pos 1 ∷ []) (pos 0 ∷ pos 1 ∷ pos 1 ∷ []) 0 1
    ∷ is_distance (pos 0 ∷ pos 0 ∷ pos 1 ∷ []) (pos 0 ∷ pos 1 ∷ pos 1 ∷ []) 1 0
    ∷ is_distance (pos 0 ∷ pos 5 ∷ pos 1 ∷ []) (pos 3 ∷ pos 1 ∷ pos 1 ∷ []) 0 25
    ∷ is_distance (pos 0 ∷ pos 5 ∷ pos 1 ∷ []) (pos 3 ∷ pos 1 ∷ pos 1 ∷ []) 2 13
    ∷ is_distance (pos 4 ∷ pos 0 ∷ pos 0 ∷ pos 9 ∷ []) (pos 4 ∷ pos 4 ∷ pos 4 ∷ pos 0 ∷ []) 1 97
    ∷ is_distance (pos 4 ∷ pos 0 ∷ pos 0 ∷ pos 9 ∷ []) (pos 4 ∷ pos 4 ∷ pos 4 ∷ pos 0 ∷ []) 2 81
    ∷ normal_match (at (pos 0 ∷ pos 2 ∷ [])) (at (pos 0 ∷ pos 1 ∷ [])) 2 0 0 20 1
    ∷ not (normal_match (at (pos 0 ∷ pos 3 ∷ [])) (at (pos 0 ∷ pos 1 ∷ [])) 2 0 0 20 1)
    ∷ not (normal_match (at (pos 5 ∷ pos 5 ∷ [])) (at (pos 5 ∷ pos 5 ∷ [])) 2 0 1000 100 1)
    ∷ raw_match (at (pos 5 ∷ pos 5 ∷ [])) (at (pos 5 ∷ pos 5 ∷ [])) 2 0 0
    ∷ sameℤ (window_sum (pos 1 ∷ pos 2 ∷ pos 4 ∷ pos 3 ∷ pos 1 ∷ []) 2 1) (pos 6)
    ∷ eqb (spread (at (pos 0 ∷ pos 0 ∷ pos 1 ∷ [])) 3) 2
    ∷ is_at (first_outside (pos 10000 ∷ negsuc 9999 ∷ negsuc 10000 ∷ pos 10001 ∷ [])) 2
    ∷ is_at (first_outside (pos 10000 ∷ pos 10001 ∷ [])) 1
    ∷ []

all : T (holds cases)
unfolding open_curves cases ends is_at normals is_normal is_distance
all = tt
