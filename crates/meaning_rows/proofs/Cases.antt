-- Small cases of the definitions, in one table that one proof covers.
use Rattle.meaning_numbers.proofs.Table.{holds, sameℤ, same_list}
use Rattle.meaning_numbers.proofs.Prelude.{Bool, true, false, ◌&&◌, List, [], ◌∷◌, ◌++◌, Option, None, Some, ℕ, T, eqb, ℤ, pos, negsuc, length}
use Rattle.meaning_rows.specs.{Range.row_number, Range.low_of, Range.up_of, Index.Index, Index.Entry, Index.covered, Index.RangeRow, Index.laid_out, Index.range_rows, Judge.first_bad_row, Audit.first_wrong, Audit.missing, Build.built, Extend.extended}
use Rattle.meaning_rows.proofs.Open.{open_rows}

-- rows as a flat list of numbers: low, up, how many runs, and the runs
flat_runs : List Entry → List ℤ
flat_runs [] = []
flat_runs (e ∷ l) = e.0 ∷ e.1 ∷ flat_runs l

flat_rows : List RangeRow → List ℤ
flat_rows [] = []
flat_rows (r ∷ l) = r.low ∷ r.up ∷ pos (length r.runs) ∷ (flat_runs r.runs ++ flat_rows l)

is_index : Index → List ℤ → Bool
is_index x l = same_list sameℤ (flat_rows (range_rows x)) l

row : ℤ → ℤ → List Entry → RangeRow
row low up runs = record { low = low; up = up; runs = runs }

-- w = 2, d = 2, four windows
index : List RangeRow → Index
index l = laid_out (pos 2) (pos 2) (pos 4) l

bad_at : Index → Option ℕ → Bool
bad_at x o = elim (first_bad_row x) [ None ↦ elim o [ None ↦ true | Some k ↦ false ] | Some p ↦ elim o [ None ↦ false | Some k ↦ eqb p k ] ]

wrong_at : Index → List ℤ → ℕ → ℕ → Bool
wrong_at x s k j = elim (first_wrong x s) [ None ↦ false | Some f ↦ eqb f.0 k && eqb f.1 j ]

missing_of : Index → List ℤ → ℕ → Bool
missing_of x s n = elim (first_wrong x s) [ None ↦ eqb (missing x) n | Some f ↦ false ]

worked : List ℤ
worked = pos 1 ∷ pos 2 ∷ pos 4 ∷ pos 3 ∷ pos 1 ∷ []

-- its rows at g = 80
two : List RangeRow
two = row (pos 2) (pos 4) ((pos 0, pos 0) ∷ []) ∷ row (pos 4) (pos 8) ((pos 1, pos 3) ∷ []) ∷ []

cases : List Bool
cases =
    -- row numbers
    sameℤ (row_number 2 (negsuc 0)) (negsuc 0)
    ∷ sameℤ (low_of 2 (negsuc 0)) (negsuc 1)
    ∷ sameℤ (up_of 2 (negsuc 0)) (pos 0)
    -- building: the worked example at g = 80, 0 and 50 (where 100 × 1 is not below 50 × 2), negative sums, a gap, every window in one row
    ∷ is_index (built worked 2 2 80) (pos 2 ∷ pos 4 ∷ pos 1 ∷ pos 0 ∷ pos 0 ∷ pos 4 ∷ pos 8 ∷ pos 1 ∷ pos 1 ∷ pos 3 ∷ [])
    ∷ is_index (built worked 2 2 0) (pos 2 ∷ pos 4 ∷ pos 1 ∷ pos 0 ∷ pos 0 ∷ pos 4 ∷ pos 6 ∷ pos 1 ∷ pos 3 ∷ pos 3 ∷ pos 6 ∷ pos 8 ∷ pos 1 ∷ pos 1 ∷ pos 2 ∷ [])
    ∷ is_index (built worked 2 2 50) (pos 2 ∷ pos 4 ∷ pos 1 ∷ pos 0 ∷ pos 0 ∷ pos 4 ∷ pos 6 ∷ pos 1 ∷ pos 3 ∷ pos 3 ∷ pos 6 ∷ pos 8 ∷ pos 1 ∷ pos 1 ∷ pos 2 ∷ [])
    ∷ is_index (built (negsuc 0 ∷ pos 0 ∷ pos 0 ∷ []) 2 2 0) (negsuc 1 ∷ pos 0 ∷ pos 1 ∷ pos 0 ∷ pos 0 ∷ pos 0 ∷ pos 2 ∷ pos 1 ∷ pos 1 ∷ pos 1 ∷ [])
    ∷ is_index (built (pos 0 ∷ pos 5 ∷ pos 0 ∷ pos 5 ∷ []) 1 1 80) (pos 0 ∷ pos 6 ∷ pos 1 ∷ pos 0 ∷ pos 3 ∷ [])
    ∷ is_index (built (pos 7 ∷ pos 7 ∷ []) 2 1000000 100) (pos 0 ∷ pos 1000000 ∷ pos 1 ∷ pos 0 ∷ pos 0 ∷ [])
    -- judging: fine; no rows; overlap; empty range; no multiple; no run; runs that touch; a run past the windows; more than the windows in all
    ∷ bad_at (index two) None
    ∷ bad_at (index []) None
    ∷ bad_at (index (row (pos 2) (pos 6) ((pos 0, pos 0) ∷ []) ∷ row (pos 4) (pos 8) ((pos 1, pos 3) ∷ []) ∷ [])) (Some 1)
    ∷ bad_at (index (row (pos 2) (pos 2) ((pos 0, pos 0) ∷ []) ∷ [])) (Some 0)
    ∷ bad_at (index (row (pos 2) (pos 5) ((pos 0, pos 0) ∷ []) ∷ [])) (Some 0)
    ∷ bad_at (index (row (pos 2) (pos 4) [] ∷ [])) (Some 0)
    ∷ bad_at (index (row (pos 2) (pos 4) ((pos 0, pos 0) ∷ (pos 1, pos 1) ∷ []) ∷ [])) (Some 0)
    ∷ bad_at (index (row (pos 2) (pos 4) ((pos 0, pos 0) ∷ (pos 2, pos 2) ∷ []) ∷ [])) None
    ∷ bad_at (index (row (pos 2) (pos 4) ((pos 4, pos 4) ∷ []) ∷ [])) (Some 0)
    ∷ bad_at (index (row (pos 2) (pos 4) ((negsuc 0, pos 0) ∷ []) ∷ [])) (Some 0)
    ∷ bad_at (index (row (pos 2) (pos 4) ((pos 0, pos 2) ∷ []) ∷ row (pos 4) (pos 6) ((pos 0, pos 1) ∷ []) ∷ [])) (Some 1)
    ∷ bad_at (index (row (negsuc 4000001) (pos 4) ((pos 0, pos 2) ∷ []) ∷ [])) (Some 0)
    ∷ bad_at (laid_out (pos 257) (pos 2) (pos 4) two) (Some 0)
    ∷ bad_at (laid_out (pos 2) (pos 0) (pos 4) two) (Some 0)
    ∷ bad_at (laid_out (pos 2) (pos 2) (pos 0) []) (Some 0)
    -- four windows of two values cover five
    ∷ same_list sameℤ (covered (index two) (worked ++ (pos 9 ∷ []))) worked
    -- auditing: yes, wrong, missing
    ∷ missing_of (index two) worked 0
    ∷ wrong_at (index (row (pos 2) (pos 4) ((pos 0, pos 1) ∷ []) ∷ row (pos 4) (pos 8) ((pos 0, pos 0) ∷ (pos 2, pos 2) ∷ []) ∷ [])) worked 0 1
    ∷ wrong_at (index (row (pos 2) (pos 4) ((pos 0, pos 0) ∷ []) ∷ row (pos 4) (pos 8) ((pos 0, pos 2) ∷ []) ∷ [])) worked 1 0
    ∷ missing_of (index (row (pos 4) (pos 8) ((pos 1, pos 2) ∷ []) ∷ [])) worked 2
    -- extending: into an old row, joined; into a new row; a wrong filing stays; equal counts give a copy
    ∷ is_index (extended (built (pos 1 ∷ pos 2 ∷ pos 4 ∷ []) 2 2 0) worked)
    (pos 2 ∷ pos 4 ∷ pos 1 ∷ pos 0 ∷ pos 0 ∷ pos 4 ∷ pos 6 ∷ pos 1 ∷ pos 3 ∷ pos 3 ∷ pos 6 ∷ pos 8 ∷ pos 1 ∷ pos 1 ∷ pos 2 ∷ [])
    ∷ is_index (extended (laid_out (pos 2) (pos 2) (pos 1) (row (pos 0) (pos 2) ((pos 0, pos 0) ∷ []) ∷ [])) worked)
    (pos 0 ∷ pos 2 ∷ pos 1 ∷ pos 0 ∷ pos 0 ∷ pos 4 ∷ pos 6 ∷ pos 1 ∷ pos 3 ∷ pos 3 ∷ pos 6 ∷ pos 8 ∷ pos 1 ∷ pos 1 ∷ pos 2 ∷ [])
    ∷ is_index (extended (index two) worked) (pos 2 ∷ pos 4 ∷ pos 1 ∷ pos 0 ∷ pos 0 ∷ pos 4 ∷ pos 8 ∷ pos 1 ∷ pos 1 ∷ pos 3 ∷ [])
    ∷ []

all : T (holds cases)
unfolding open_rows flat_runs flat_rows is_index row index bad_at wrong_at missing_of worked two cases
all = tt
