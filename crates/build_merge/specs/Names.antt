-- Names of rows: window j stands in row `row j`, whose name is one more; 0 names none. A run's entry has the name before it and the name after it. A row that joins a group of rows
-- has as many neighbours in the group as entries that name one of its rows, so the runs of the union are counted by names alone.
use Rattle.std.specs.Prelude.{ℕ, zero, suc, ◌+◌, ◌<◌, ltb, get_or, Bool, cond, List, ◌≡◌}
use Rattle.meaning_rows.specs.Runs.{runs, run_count}
use Rattle.meaning_rows.proofs.Columns.{lefts, rights}
use Rattle.sums_slide.specs.Levels.{within}
use Rattle.sums_count.specs.Tally.{is_row}

-- the name of the row of window j, of n windows
unfoldable pub name_at : (ℕ → ℕ) → ℕ → ℕ → ℕ
name_at row n j = cond (ltb j n) (row j + 1) 0

-- the name at the window before l
unfoldable pub name_before : (ℕ → ℕ) → ℕ → ℕ → ℕ
name_before row n zero = 0
name_before row n (suc l) = name_at row n l

-- the name at the window after r
abbrev pub name_after : (ℕ → ℕ) → ℕ → ℕ → ℕ
name_after row n r = name_at row n (suc r)

-- name number t from `first` on is in the range
unfoldable pub names_of : List ℕ → ℕ → ℕ → ℕ → ℕ → Bool
names_of names first lo hi t = within lo hi (get_or names (first + t) 0)

-- the entries of row i from `first` on have the names before and after its runs
pub record NamedRow (row : ℕ → ℕ) (n i first : ℕ) (left right : List ℕ) : Type 0 where
  pub left_is : (t : ℕ) → t < run_count (is_row row i) n → get_or left (first + t) 0 ≡ name_before row n (get_or (lefts (runs (is_row row i) n)) t 0)
  pub right_is : (t : ℕ) → t < run_count (is_row row i) n → get_or right (first + t) 0 ≡ name_after row n (get_or (rights (runs (is_row row i) n)) t 0)
