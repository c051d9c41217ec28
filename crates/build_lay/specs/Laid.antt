-- The rows of a series laid out: their numbers and where their parts end, and what is packed of these.
use Rattle.std.specs.Prelude.{ℕ, ◌+◌, ◌*◌, ◌≤◌, ℤ, length, get_or, take, List, ◌≡◌}
use Rattle.sums_slide.specs.{Levels.level, Levels.row_of, Levels.windows_of, Levels.Lent, Table.table}
use Rattle.sums_count.specs.Tally.{Counted}
use Rattle.rows_pack.specs.Packed.{Summed}

-- a series, a window length, what sums are raised by and a row width, in their limits, and room for the rows
pub record LayAsked (s : List ℤ) (w e d : ℕ) (left right : List ℕ) : Type 0 where
  pub lent : Lent s w e
  pub least : 1 ≤ d
  pub most : d ≤ 1000000
  pub rows : ℕ
  pub bias : 10000 * w + e ≡ rows * d
  pub in_left : windows_of s w ≤ length left
  pub in_right : windows_of s w ≤ length right

-- the first n of `left` are the row numbers, and of `right` where their parts end
pub record LaidOut (s : List ℤ) (w e d n : ℕ) (left right : List ℕ) : Type 0 where
  pub count : n ≡ length (table s w e d)
  pub front : take n left ≡ table s w e d
  pub counts : List ℕ
  pub counted : Counted (row_of (level s w e) d) (windows_of s w) (table s w e d) counts
  pub summed : Summed n counts right
  pub in_left : n ≤ length left
  pub in_right : n ≤ length right

-- as long, and 0 in every entry
pub record Cleared (old new : List ℕ) : Type 0 where
  pub long : length new ≡ length old
  pub zero : (x : ℕ) → get_or new x 0 ≡ 0
