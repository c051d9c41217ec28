-- Building an index: file each window, drop empty rows, merge once upward (01, Rows).
use Rattle.std.specs.Prelude.{ℕ, zero, suc, ◌+◌, ◌*◌, ltb, ℤ, pos, length, Bool, true, false, cond, ◌||◌, List, [], ◌∷◌, map}
use Rattle.std.specs.Int.Signed.{lt_z}
use Rattle.meaning_curves.specs.Curve.{window_sum, window_count}
use Rattle.meaning_rows.specs.{Range.row_number, Range.low_of, Range.up_of, Range.inside, Runs.runs, Runs.run_count, Index.Index, Index.Entry, Index.RangeRow, Index.laid_out}

-- a row as a range and the set of its offsets, as a test
pub record SetRow : Type 0 where
  pub low : ℤ
  pub up : ℤ
  pub has : ℕ → Bool

-- a row number put among others, ascending, each once
unfoldable pub insert : ℤ → List ℤ → List ℤ
insert k [] = k ∷ []
insert k (x ∷ l) = cond (lt_z k x) (k ∷ x ∷ l) (cond (lt_z x k) (x ∷ insert k l) (x ∷ l))

-- the row numbers of the windows below n: a row that no window has is not among them
unfoldable pub row_numbers : (ℕ → ℤ) → ℕ → ℕ → List ℤ
row_numbers sum d zero = []
row_numbers sum d (suc n) = insert (row_number d (sum n)) (row_numbers sum d n)

-- row k, with the windows whose sums it holds
unfoldable pub row_at : (ℕ → ℤ) → ℕ → ℤ → SetRow
row_at sum d k = record { low = low_of d k; up = up_of d k; has = λ j. inside (low_of d k) (up_of d k) (sum j) }

-- each window filed, empty rows dropped
unfoldable pub filed : (ℕ → ℤ) → ℕ → ℕ → List SetRow
filed sum d n = map (row_at sum d) (row_numbers sum d n)

-- a merged range goes from the first low to the last up, gaps included
unfoldable pub join : SetRow → SetRow → SetRow
join r s = record { low = r.low; up = s.up; has = λ j. r.has j || s.has j }

-- the current row takes in the next if 100 × (runs of the union) < g × (runs of both added)
unfoldable pub takes : ℕ → ℕ → SetRow → SetRow → Bool
takes g n r s = ltb (100 * run_count (join r s).has n) (g * (run_count r.has n + run_count s.has n))

-- once upward: the current row takes in the next, or the next becomes current
unfoldable pub upward : ℕ → ℕ → SetRow → List SetRow → List SetRow
upward g n r [] = r ∷ []
upward g n r (s ∷ rest) = elim (takes g n r s) [ true ↦ upward g n (join r s) rest | false ↦ r ∷ upward g n s rest ]

-- the rows merged, beginning with the lowest as the current row
unfoldable pub merged : ℕ → ℕ → List SetRow → List SetRow
merged g n [] = []
merged g n (r ∷ rest) = upward g n r rest

-- a run entry of two offsets
abbrev pub entry : ℕ × ℕ → Entry
entry x = (pos x.0, pos x.1)

-- a row with the runs of its offsets below n
unfoldable pub with_runs : ℕ → SetRow → RangeRow
with_runs n r = record { low = r.low; up = r.up; runs = map entry (runs r.has n) }

-- the rows of the n windows whose sums are given
unfoldable pub built_rows : (ℕ → ℤ) → ℕ → ℕ → ℕ → List RangeRow
built_rows sum d g n = map (with_runs n) (merged g n (filed sum d n))

-- the index of a series
unfoldable pub built : List ℤ → ℕ → ℕ → ℕ → Index
built s w d g =
    let n = window_count (length s) w in
    laid_out (pos w) (pos d) (pos n) (built_rows (window_sum s w) d g n)
