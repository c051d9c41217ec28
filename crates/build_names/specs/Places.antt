-- Windows by place and raised sum, their names, and what holds on the way of the pass that names neighbours.
use Rattle.std.specs.Prelude.{ℕ, ◌+◌, ◌≤◌, ltb, ℤ, length, get_or, cond, List, ◌≡◌, Some, None}
use Rattle.std.specs.declared.option.Option.{Option}
use Rattle.meaning_curves.specs.Curve.{window_sum, window_count}
use Rattle.meaning_rows.specs.declared.Row.{Row}
use Rattle.sums_slide.specs.{declared.Window.Window, Levels.Lent, Levels.windows_of, Levels.sum_at}
use Rattle.rows_find.specs.Search.{Climbs}
use Rattle.build_merge.specs.Merging.{part_at}
use Rattle.build_names.specs.Ranges.{place_in, row_in, RangeRows}

-- the name of row i, where window j is one of those of len values
unfoldable pub name_for : ℕ → ℕ → ℕ → ℕ → Option ℕ
name_for len w j i = cond (ltb j (window_count len w)) (Some i) None

-- what an entry has of a name: one more, and 0 of none
abbrev pub entry_of : Option ℕ → ℕ
entry_of None = 0
entry_of (Some i) = i + 1

-- the name of a window's row among the first `count`
abbrev pub name_in : List Row → ℕ → ℕ → ℕ → ℕ → Window → Option ℕ
name_in rows count len w e at = name_for len w at.offset (place_in rows count (sum_at w e at))

-- a window's row can be named
pub record Nameable (rows : List Row) (count w e : ℕ) (at : Window) : Type 0 where
  pub climbs : Climbs rows count
  pub some : 1 ≤ w
  pub most : w ≤ 256
  pub small : e ≤ 1000000
  pub level-small : at.level ≤ 1000000000
  pub offset-small : at.offset ≤ 1048576
  pub few : count ≤ 4294967294

-- the rows of the windows stand in the records, and their parts are empty
pub record Unnamed (s : List ℤ) (w e : ℕ) (rows : List Row) (count : ℕ) (left right : List ℕ) : Type 0 where
  pub lent : Lent s w e
  pub ranges : RangeRows (window_sum s w) (windows_of s w) rows count
  pub few : count ≤ 4294967294
  pub in_left : part_at (row_in rows count (window_sum s w)) (windows_of s w) count ≤ length left
  pub in_right : part_at (row_in rows count (window_sum s w)) (windows_of s w) count ≤ length right
  pub zeros : (x : ℕ) → get_or right x 0 ≡ 0
