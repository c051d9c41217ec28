-- The index: head, row records and run entries, as they are lent or as a text spells them. A text may have any whole numbers, so the head and the run entries are whole numbers here.
use Rattle.std.specs.Prelude.{ℕ, ◌+◌, ◌-◌, ℤ, pos, nat_abs, length, take, drop, Bool, ◌&&◌, List, [], ◌∷◌, ◌++◌, map}
use Rattle.std.specs.Int.Signed.{le_z}
use Rattle.meaning_numbers.specs.Place.{any}
use Rattle.meaning_rows.specs.{declared.Row.Row, declared.Head.Head}

-- the record of zeros
abbrev pub zero_row : Row
zero_row = record { low = pos 0; up = pos 0; first = 0; runs = 0 }

-- a run entry: l and r
abbrev pub Entry : Type 0
Entry = ℤ × ℤ

-- window length w, row width d, number of windows, row records, run entries
pub record Index : Type 0 where
  pub window : ℤ
  pub width : ℤ
  pub windows : ℤ
  pub rows : List Row
  pub runs : List Entry

-- the run entries of two slices: the pair at each place, as many as the shorter slice has
unfoldable pub entries : List ℕ → List ℕ → List Entry
entries [] r = []
entries (x ∷ l) [] = []
entries (x ∷ l) (y ∷ r) = (pos x, pos y) ∷ entries l r

-- 01, Rows: rows are lent as a run of row records; an index has exactly the lent rows
abbrev pub lent : Head → List Row → List ℕ → List ℕ → Index
lent h rows left right = record {
  window = pos h.window;
  width = pos h.width;
  windows = pos h.windows;
  rows = rows;
  runs = entries left right;
}

-- 02, item 1: the part of a series that an index covers, its first windows + w - 1 values
abbrev pub covered : Index → List ℤ → List ℤ
covered x s = take (nat_abs x.windows + nat_abs x.window - 1) s

-- a row's own part of the run buffer
abbrev pub runs_of : Index → Row → List Entry
runs_of x r = take r.runs (drop r.first x.runs)

-- offset j stands in a run
abbrev pub in_run : ℕ → Entry → Bool
in_run j e = le_z e.0 (pos j) && le_z (pos j) e.1

-- offset j stands in a row
abbrev pub stands : Index → Row → ℕ → Bool
stands x r j = any (in_run j) (runs_of x r)

-- ---- rows with their runs, and how they are laid out

-- 01, Rows: a row has its range [low, up) and runs [l, r] of offsets
pub record RangeRow : Type 0 where
  pub low : ℤ
  pub up : ℤ
  pub runs : List Entry

-- the row records: each row's runs begin where the row before ends, the first row's at k
unfoldable pub records : ℕ → List RangeRow → List Row
records k [] = []
records k (r ∷ l) = record { low = r.low; up = r.up; first = k; runs = length r.runs } ∷ records (k + length r.runs) l

-- the run entries, one row's after the other's
unfoldable pub all_runs : List RangeRow → List Entry
all_runs [] = []
all_runs (r ∷ l) = r.runs ++ all_runs l

-- rows with their runs as an index, laid out in order
abbrev pub laid_out : ℤ → ℤ → ℤ → List RangeRow → Index
laid_out window width windows l = record {
  window = window;
  width = width;
  windows = windows;
  rows = records 0 l;
  runs = all_runs l;
}

-- the rows of an index with their runs
abbrev pub range_row : Index → Row → RangeRow
range_row x r = record { low = r.low; up = r.up; runs = runs_of x r }

abbrev pub range_rows : Index → List RangeRow
range_rows x = map (range_row x) x.rows
