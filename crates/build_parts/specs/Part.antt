-- A row's part of the run buffer: how many of its runs are written, and that there is room for one more.
use Rattle.std.specs.Prelude.{ℕ, ◌+◌, ◌-◌, ◌<◌, ◌≤◌, length, get_or, List}
use Rattle.meaning_rows.specs.declared.Row.{Row}

-- how many of the n entries of a part that is not full are written, where the part is lent from its first entry on
abbrev pub written_in : ℕ → List ℕ → ℕ
written_in n part = get_or part (n - 1) 0

-- the part lies in what is lent and is not full
pub record EntryRoom (n : ℕ) (left right : List ℕ) : Type 0 where
  pub in_left : n ≤ length left
  pub in_right : n ≤ length right
  pub more : written_in n right < n

-- the same of a row's part in the whole buffer
abbrev pub written : Row → List ℕ → ℕ
written r right = get_or right (r.first + r.runs - 1) 0

-- the same of a row in the whole buffer (`entry-room` of `Lent`)
pub record PartRoom (r : Row) (left right : List ℕ) : Type 0 where
  pub in_left : r.first + r.runs ≤ length left
  pub in_right : r.first + r.runs ≤ length right
  pub more : written r right < r.runs
