-- The table of cases: the starred cases of document 01 ('Worth trying'), its worked texts, calls over lent buffers, edges, and texts of files. One proof covers the table.
use Rattle.meaning_numbers.specs.{Root.root, Place.numbers_from}
use Rattle.meaning_numbers.proofs.Table.{holds, sameℤ, same_list}
use Rattle.meaning_numbers.proofs.Prelude.{Bool, not, ◌&&◌, List, [], ◌∷◌, ◌++◌, map, ℕ, T, eqb, ℤ, pos, negsuc}
use Rattle.meaning_curves.specs.{Curve.at, Normal.normalised, Match.distance, Match.normal_match}
use Rattle.meaning_rows.specs.{Range.row_number, Range.low_of, Range.up_of, Build.built}
use Rattle.meaning_filter.specs.{declared.Kind.TheVariants.Raw, declared.Pick.Pick, Envelope.lower, Envelope.upper, Matches.Question, Matches.candidate_runs}
use Rattle.meaning_entries.proofs.{Open.open_entries, Row.prints, Row.open_row, Calls.calls, Edges.edges, Vectors.vectors}

-- the values of a curve of n places
values : ℕ → (ℕ → ℤ) → List ℤ
values n f = map f (numbers_from 0 n)

same_pair : ℕ × ℕ → ℕ × ℕ → Bool
same_pair x y = eqb x.0 y.0 && eqb x.1 y.1

-- the query 2 4 in the worked series, E = 4
above : Question
above = record {
  series = pos 1 ∷ pos 2 ∷ pos 4 ∷ pos 3 ∷ pos 1 ∷ [];
  query = pos 2 ∷ pos 4 ∷ [];
  ask = record { kind = Raw; limits = record { band = 0; threshold = 4; scale = 10; shift = 0 }; pick = Pick.All };
}

starred : List Bool
unfolding values same_pair above
starred =
    -- The index above; row 2..4 is not merged at the end, though it could be then.
    prints "(window 2)\n(width 2)\n(merge 80)\n(series 1 2 4 3 1)\n(find raw 0 5 10 0 (query 2 4))\n"
    "(index (window 2) (width 2) (windows 4)\n(row 2 4 (0 0))\n(row 4 8 (1 3))\n)\n(found 3 (candidates 4)\n(at 0 5)\n(at 1 0)\n(at 2 5)\n)\n"
    -- Sum -1, d = 2: range [-2, 0).
    ∷ (sameℤ (low_of 2 (row_number 2 (negsuc 0))) (negsuc 1) && sameℤ (up_of 2 (row_number 2 (negsuc 0))) (pos 0))
    -- E = 4 above: candidates 1 to 3, match 1 only.
    ∷ prints "(window 2)\n(width 2)\n(merge 80)\n(series 1 2 4 3 1)\n(find raw 0 4 10 0 (query 2 4))\n"
    "(index (window 2) (width 2) (windows 4)\n(row 2 4 (0 0))\n(row 4 8 (1 3))\n)\n(found 1 (candidates 3)\n(at 1 0)\n)\n"
    ∷ same_list same_pair (candidate_runs (built (pos 1 ∷ pos 2 ∷ pos 4 ∷ pos 3 ∷ pos 1 ∷ []) 2 2 80) above) ((1, 3) ∷ [])
    -- Query 4 3, E = 0: match 2; three candidates at g = 80, two at g = 0.
    ∷ prints "(window 2)\n(width 2)\n(merge 80)\n(series 1 2 4 3 1)\n(find raw 0 0 10 0 (query 4 3))\n"
    "(index (window 2) (width 2) (windows 4)\n(row 2 4 (0 0))\n(row 4 8 (1 3))\n)\n(found 1 (candidates 3)\n(at 2 0)\n)\n"
    ∷ prints "(window 2)\n(width 2)\n(merge 0)\n(series 1 2 4 3 1)\n(find raw 0 0 10 0 (query 4 3))\n"
    "(index (window 2) (width 2) (windows 4)\n(row 2 4 (0 0))\n(row 4 6 (3 3))\n(row 6 8 (1 2))\n)\n(found 1 (candidates 2)\n(at 2 0)\n)\n"
    -- 0 0 1 normalises to -70 -70 141.
    ∷ same_list sameℤ (values 3 (normalised (at (pos 0 ∷ pos 0 ∷ pos 1 ∷ [])) 3)) (negsuc 69 ∷ negsuc 69 ∷ pos 141 ∷ [])
    -- 1 3 gives -100 100.
    ∷ same_list sameℤ (values 2 (normalised (at (pos 1 ∷ pos 3 ∷ [])) 2)) (negsuc 99 ∷ pos 100 ∷ [])
    -- 0 0 1 against 0 1 1: distance 1 at b = 0, 0 at b = 1.
    ∷ eqb (distance (at (pos 0 ∷ pos 0 ∷ pos 1 ∷ [])) (at (pos 0 ∷ pos 1 ∷ pos 1 ∷ [])) 0 3) 1
    ∷ eqb (distance (at (pos 0 ∷ pos 0 ∷ pos 1 ∷ [])) (at (pos 0 ∷ pos 1 ∷ pos 1 ∷ [])) 1 3) 0
    -- Envelope of 0 3 1 at b = 1: 0 0 1 and 3 3 3.
    ∷ same_list sameℤ (values 3 (lower (at (pos 0 ∷ pos 3 ∷ pos 1 ∷ [])) 3 1)) (pos 0 ∷ pos 0 ∷ pos 1 ∷ [])
    ∷ same_list sameℤ (values 3 (upper (at (pos 0 ∷ pos 3 ∷ pos 1 ∷ [])) 3 1)) (pos 3 ∷ pos 3 ∷ pos 3 ∷ [])
    -- Query 0 1, a = 20, h = 1: 0 2 matches, 0 3 does not (E = 0).
    ∷ normal_match (at (pos 0 ∷ pos 2 ∷ [])) (at (pos 0 ∷ pos 1 ∷ [])) 2 0 0 20 1
    ∷ not (normal_match (at (pos 0 ∷ pos 3 ∷ [])) (at (pos 0 ∷ pos 1 ∷ [])) 2 0 0 20 1)
    -- root(8) = 2, root(9) = 3.
    ∷ eqb (root 8) 2
    ∷ eqb (root 9) 3
    ∷ []

pub cases : List Bool
unfolding starred
cases = starred ++ (calls ++ (edges ++ vectors))

pub all : T (holds cases)
unfolding open_entries open_row cases calls edges vectors
all = tt
