-- The walk over old rows and row numbers: what it is given, what it has made after some turns, how it begins, a turn and its end.
use Rattle.std.specs.Prelude.{ℕ, ◌≤◌, ℤ, length, take, ◌<ℤ◌, List, map, ◌≡◌}
use Rattle.meaning_numbers.proofs.Member.{All}
use Rattle.meaning_curves.specs.Limits.{lowest_end}
use Rattle.meaning_rows.specs.declared.Row.{Row}
use Rattle.meaning_rows.proofs.{Times.Ascending, Judge.range_of, Woven.woven}
use Rattle.sums_count.specs.{Numbers.lowered, Tally.Rising}
use Rattle.extend_weave.specs.Turn.{end_low, Cells}

-- the first `count` numbers, lowered
abbrev pub numbers_of : List ℕ → ℕ → ℕ → List ℤ
numbers_of numbers count base = map (lowered base) (take count numbers)

-- old rows in order, numbers in order, and room for the records
pub record Weavable (old : List Row) (numbers : List ℕ) (count d base size : ℕ) : Type 0 where
  pub width : (1 ≤ d) × (d ≤ 1000000)
  pub cells : Cells numbers count d base
  pub rising : Rising numbers count
  pub ascending : Ascending lowest_end (map range_of old)
  pub below : All (λ r. r.up <ℤ end_low) old
  pub room : length (woven d old (numbers_of numbers count base)) ≤ size

-- the first records are those of the walk
pub record Made (old : List Row) (numbers : List ℕ) (count d base : ℕ) (before : List Row) (n : ℕ) (after : List Row) : Type 0 where
  pub count-is : n ≡ length (woven d old (numbers_of numbers count base))
  pub rows_are : take n after ≡ woven d old (numbers_of numbers count base)
  pub long : length after ≡ length before
