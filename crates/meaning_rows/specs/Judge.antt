-- When an index is well formed, and the first bad row (01, Rows). The head is judged first; a row is judged by itself and against the rows before it.
use Rattle.std.specs.Prelude.{ℕ, suc, ◌+◌, ◌-◌, leb, eqb, ℤ, pos, ◌+ℤ◌, nat_abs, length, Bool, true, cond, ◌&&◌, List, [], ◌∷◌}
use Rattle.std.specs.Int.Signed.{le_z, lt_z}
use Rattle.std.specs.declared.option.Option.{Option}
use Rattle.std.specs.Prelude.{None, Some}
use Rattle.meaning_numbers.specs.Quotient.{multiple}
use Rattle.meaning_curves.specs.Limits.{window_in, width_in, windows_in, end_in, lowest_end}
use Rattle.meaning_rows.specs.{declared.Row.Row, Index.Index, Index.Entry, Index.runs_of}

-- w and d are in their limits, and it has at least one window, at most 1,048,576
unfoldable pub head_good : Index → Bool
head_good x = window_in x.window && (width_in x.width && windows_in x.windows)

-- each run with l at least `least` and r not below l, ascending, not touching, below the window count
unfoldable pub runs_good : ℤ → ℤ → List Entry → Bool
runs_good windows least [] = true
runs_good windows least (e ∷ l) = le_z least e.0 && (le_z e.0 e.1 && (lt_z e.1 windows && runs_good windows (e.1 +ℤ pos 2) l))

-- the windows that stand in runs: the run lengths added up
unfoldable pub run_lengths : List Entry → ℕ
run_lengths [] = 0
run_lengths (e ∷ l) = nat_abs e.1 + 1 - nat_abs e.0 + run_lengths l

-- the run lengths of rows, added up
unfoldable pub length_total : Index → List Row → ℕ
length_total x [] = 0
length_total x (r ∷ l) = run_lengths (runs_of x r) + length_total x l

-- the range is nonempty, its ends are multiples of d inside their limits, and it does not begin below `least`, where the row before ends
unfoldable pub range_good : Index → ℤ → Row → Bool
range_good x least r =
    lt_z r.low r.up && (multiple (nat_abs x.width) r.low && (multiple (nat_abs x.width) r.up && (end_in r.low && (end_in r.up && le_z least r.low))))

-- at least one run; the runs begin in the run buffer at `first`, where the row before ends, and lie inside it
unfoldable pub part_good : Index → ℕ → Row → Bool
part_good x first r = leb 1 r.runs && (eqb r.first first && leb (r.first + r.runs) (length x.runs))

-- a row, after rows that end at `least`, whose runs end at `first` in the run buffer and whose run lengths total `taken`
unfoldable pub row_good : Index → ℤ → ℕ → ℕ → Row → Bool
row_good x least first taken r =
    range_good x least r && (part_good x first r && (runs_good x.windows (pos 0) (runs_of x r) && leb (taken + run_lengths (runs_of x r)) (nat_abs x.windows)))

-- the place of the first bad row, counted on from k
unfoldable pub bad_row_from : Index → ℕ → ℤ → ℕ → ℕ → List Row → Option ℕ
bad_row_from x k least first taken [] = None
bad_row_from x k least first taken (r ∷ l) =
    cond (row_good x least first taken r) (bad_row_from x (suc k) r.up (first + r.runs) (taken + run_lengths (runs_of x r)) l) (Some k)

-- 01, Refused for the state, 20: the first bad row; 0 for the head; none where the index is well formed
unfoldable pub first_bad_row : Index → Option ℕ
first_bad_row x = cond (head_good x) (bad_row_from x 0 lowest_end 0 0 x.rows) (Some 0)
