-- Small cases of the definitions, in one table that one proof covers. The ends of ranges are those of an independent program.
use Rattle.meaning_numbers.specs.Place.{numbers_from}
use Rattle.meaning_numbers.proofs.Table.{holds, sameℤ, same_list}
use Rattle.meaning_numbers.proofs.Prelude.{Bool, ◌&&◌, List, [], ◌∷◌, map, ℕ, T, eqb, ℤ, pos, negsuc}
use Rattle.meaning_curves.specs.{Curve.at, Normal.normalised}
use Rattle.meaning_rows.specs.{Index.Index, Build.built}
use Rattle.meaning_filter.specs.{declared.Kind.Kind, declared.Kind.TheVariants.Raw, declared.Kind.TheVariants.Normal, declared.Pick.Pick, Envelope.lower, Envelope.upper, Range.raw_low, Range.raw_high, Range.normal_low, Range.normal_high, Matches.Question, Matches.candidate_runs, Matches.candidate_count, Matches.match_list, Matches.all_matches, Closest.closest, Closest.handed, Closest.fewest}
use Rattle.meaning_filter.proofs.Open.{open_filter}

same_pair : ℕ × ℕ → ℕ × ℕ → Bool
same_pair x y = eqb x.0 y.0 && eqb x.1 y.1

-- the values of a curve at its first n places
values : ℕ → (ℕ → ℤ) → List ℤ
values n f = map f (numbers_from 0 n)

worked : List ℤ
worked = pos 1 ∷ pos 2 ∷ pos 4 ∷ pos 3 ∷ pos 1 ∷ []

-- its first values
early : List ℤ
early = pos 1 ∷ pos 2 ∷ pos 4 ∷ []

-- two windows that stand nowhere
bare : Index
bare = record { window = pos 2; width = pos 2; windows = pos 2; rows = []; runs = [] }

-- a straight query with threshold E, scale limit 20 tenths and shift limit 1
ask : Kind → List ℤ → ℕ → List ℤ → Question
ask kind q E s = record { series = s; query = q; ask = record { kind = kind; limits = record { band = 0; threshold = E; scale = 20; shift = 1 }; pick = Pick.All } }

three : List ℤ
three = pos 0 ∷ pos 3 ∷ pos 1 ∷ []

four : List ℤ
four = pos 0 ∷ pos 1 ∷ pos 7 ∷ negsuc 1 ∷ []

five : List ℤ
five = pos 5 ∷ pos 9 ∷ pos 40 ∷ negsuc 29 ∷ pos 17 ∷ []

-- matches with equal distances
tied : List (ℕ × ℕ)
tied = (0, 7) ∷ (2, 3) ∷ (5, 3) ∷ (6, 0) ∷ (9, 7) ∷ []

cases : List Bool
cases =
    -- envelopes, at b = 1, 0 and beyond the query
    same_list sameℤ (values 3 (lower (at three) 3 1)) (pos 0 ∷ pos 0 ∷ pos 1 ∷ [])
    ∷ same_list sameℤ (values 3 (upper (at three) 3 1)) (pos 3 ∷ pos 3 ∷ pos 3 ∷ [])
    ∷ same_list sameℤ (values 3 (lower (at three) 3 0)) three
    ∷ same_list sameℤ (values 3 (upper (at three) 3 0)) three
    ∷ same_list sameℤ (values 5 (lower (at five) 5 4)) (negsuc 29 ∷ negsuc 29 ∷ negsuc 29 ∷ negsuc 29 ∷ negsuc 29 ∷ [])
    -- ranges of parts: 0 1 7 -2 in parts of 2 (E = 500, a = 20, h = 1), and 5 9 40 -30 17, one part of 3 from place 1 on (b = 2, E = 90000, a = 15, h = 3)
    ∷ sameℤ (normal_low (at four) 4 1 500 20 1 2 2) (negsuc 14)
    ∷ sameℤ (normal_high (at four) 4 1 500 20 1 2 2) (pos 29)
    ∷ sameℤ (normal_low (at four) 4 0 500 20 1 0 2) (negsuc 4)
    ∷ sameℤ (normal_high (at four) 4 0 500 20 1 0 2) (pos 4)
    ∷ sameℤ (normal_low (at five) 5 2 90000 15 3 1 3) (negsuc 332)
    ∷ sameℤ (normal_high (at five) 5 2 90000 15 3 1 3) (pos 353)
    ∷ sameℤ (raw_low (normalised (at five) 5) 5 2 90000 1 3) (negsuc 1022)
    ∷ sameℤ (raw_high (normalised (at five) 5) 5 2 90000 1 3) (pos 939)
    ∷ sameℤ (raw_low (at (pos 2 ∷ pos 4 ∷ [])) 2 0 5 0 2) (pos 3)
    ∷ sameℤ (raw_high (at (pos 2 ∷ pos 4 ∷ [])) 2 0 5 0 2) (pos 9)
    -- candidates and matches: query 2 4 in the worked series
    ∷ same_list same_pair (candidate_runs (built worked 2 2 80) (ask Raw (pos 2 ∷ pos 4 ∷ []) 5 worked)) ((0, 3) ∷ [])
    ∷ same_list same_pair (candidate_runs (built worked 2 2 80) (ask Raw (pos 2 ∷ pos 4 ∷ []) 4 worked)) ((1, 3) ∷ [])
    ∷ eqb (candidate_count (built worked 2 2 0) (ask Raw (pos 4 ∷ pos 3 ∷ []) 0 worked)) 2
    ∷ eqb (candidate_count (built worked 2 2 0) (ask Raw (pos 2 ∷ pos 4 ∷ []) 0 worked)) 2
    ∷ eqb (candidate_count (built worked 2 2 0) (ask Raw (pos 2 ∷ pos 2 ∷ []) 0 worked)) 1
    ∷ same_list same_pair (match_list (built worked 2 2 80) (ask Raw (pos 2 ∷ pos 4 ∷ []) 5 worked)) ((0, 5) ∷ (1, 0) ∷ (2, 5) ∷ [])
    ∷ same_list same_pair (all_matches (ask Raw (pos 2 ∷ pos 4 ∷ []) 5 worked)) ((0, 5) ∷ (1, 0) ∷ (2, 5) ∷ [])
    ∷ same_list same_pair (match_list (built (pos 0 ∷ pos 2 ∷ pos 0 ∷ pos 3 ∷ []) 2 2 80) (ask Normal (pos 0 ∷ pos 1 ∷ []) 0 (pos 0 ∷ pos 2 ∷ pos 0 ∷ pos 3 ∷ []))) ((0, 0) ∷ [])
    -- the worked series through an index of its first values: windows past its count are met, of those below it only what stands in a row that is met
    ∷ same_list same_pair (candidate_runs (built early 2 2 0) (ask Raw (pos 4 ∷ pos 3 ∷ []) 0 worked)) ((1, 3) ∷ [])
    ∷ same_list same_pair (candidate_runs (built early 2 2 0) (ask Raw (pos 2 ∷ pos 2 ∷ []) 0 worked)) ((2, 3) ∷ [])
    ∷ same_list same_pair (candidate_runs (built early 1 1 0) (ask Raw (pos 2 ∷ pos 4 ∷ pos 3 ∷ []) 0 worked)) ((1, 1) ∷ [])
    ∷ same_list same_pair (candidate_runs (built early 1 1 0) (ask Raw (pos 3 ∷ pos 1 ∷ []) 0 worked)) ((3, 3) ∷ [])
    ∷ same_list same_pair (candidate_runs bare (ask Raw (pos 4 ∷ pos 3 ∷ []) 0 worked)) ((2, 3) ∷ [])
    ∷ same_list same_pair (match_list (built early 2 2 0) (ask Raw (pos 4 ∷ pos 3 ∷ []) 0 worked)) ((2, 0) ∷ [])
    -- the closest few: equal distances by earlier offset, all of them if there are fewer
    ∷ same_list same_pair (closest 1 tied) ((6, 0) ∷ [])
    ∷ same_list same_pair (closest 2 tied) ((6, 0) ∷ (2, 3) ∷ [])
    ∷ same_list same_pair (closest 4 tied) ((6, 0) ∷ (2, 3) ∷ (5, 3) ∷ (0, 7) ∷ [])
    ∷ same_list same_pair (closest 64 tied) ((6, 0) ∷ (2, 3) ∷ (5, 3) ∷ (0, 7) ∷ (9, 7) ∷ [])
    ∷ same_list same_pair (closest 3 []) []
    ∷ same_list same_pair (handed Pick.All tied) tied
    ∷ same_list same_pair (handed (Pick.Closest 3) tied) ((6, 0) ∷ (2, 3) ∷ (5, 3) ∷ [])
    ∷ eqb (fewest Pick.All) 0
    ∷ eqb (fewest (Pick.Closest 3)) 3
    ∷ []

all : T (holds cases)
unfolding open_filter same_pair values worked early bare ask three four five tied cases
all = tt
