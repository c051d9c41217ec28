-- Counting the runs of new windows in their rows, by rank.
use Rattle.std.specs.Prelude.{ℕ, ◌+◌, ◌<◌, ◌≤◌, leb, ℤ, length, get_or, cond, List, ◌≡◌}
use Rattle.meaning_rows.specs.Runs.{run_count}
use Rattle.sums_slide.specs.Levels.{level, Lent, windows_of}
use Rattle.extend_count.specs.Rank.{rank, Climbing}
unfoldable pub use Rattle.sums_count.specs.Tally.{is_row}

-- the row of window j, by rank; below `old` none
unfoldable pub row_from : List ℤ → ℕ → ℕ → ℕ → List ℕ → ℕ → ℕ → ℕ
row_from s w e old ups n j = cond (leb old j) (rank ups n (level s w e j)) n

-- the ends of the rows ascend, each new window has a row, and the counts have room
pub record Countable (s : List ℤ) (w e old : ℕ) (ups : List ℕ) (n : ℕ) (counts : List ℕ) : Type 0 where
  pub lent : Lent s w e
  pub some_left : old ≤ windows_of s w
  pub in-ups : n ≤ length ups
  pub in-counts : n ≤ length counts
  pub climbing : Climbing ups n
  pub has-row : (j : ℕ) → old ≤ j → j < windows_of s w → rank ups n (level s w e j) < n
  pub small : (i : ℕ) → i < n → get_or counts i 0 ≤ 1048576

-- the runs of the windows from `old` on, below j, are counted in their rows
pub record Counted (s : List ℤ) (w e old : ℕ) (ups : List ℕ) (n : ℕ) (before : List ℕ) (j : ℕ) (after : List ℕ) : Type 0 where
  pub count : (i : ℕ) → i < n → get_or after i 0 ≡ get_or before i 0 + run_count (is_row (row_from s w e old ups n) i) j
  pub long : length after ≡ length before
