-- The group of rows on the way, and the group after one row more: the row is taken in, or begins the next group (`next_group`).
use Rattle.std.specs.Prelude.{ℕ, ◌+◌, ◌-◌, ◌*◌, ◌<◌, ◌≤◌, ltb, length, cond, List}
use Rattle.meaning_numbers.specs.Sum.{count}
use Rattle.meaning_rows.specs.declared.Row.{Row}
use Rattle.build_merge.specs.{declared.Group.Group, Names.names_of}

-- the group of the first row
abbrev pub first_group : Row → Group
first_group r = record { place = 0; from = 0; row = r }

-- how many entries of row i name a row from `from` up to it
abbrev pub touching : List ℕ → List ℕ → Row → ℕ → ℕ → ℕ
touching left right r from i = count (names_of left r.first (from + 1) (i + 1)) r.runs + count (names_of right r.first (from + 1) (i + 1)) r.runs

-- the runs of the group with row i
abbrev pub union_runs : List ℕ → List ℕ → Group → ℕ → Row → ℕ
union_runs left right m i r = m.row.runs + r.runs - touching left right r m.from i

abbrev pub joined : Group → Row → ℕ → Group
joined m r union = record { place = m.place; from = m.from; row = record { low = m.row.low; up = r.up; first = m.row.first; runs = union } }

abbrev pub begun : Group → ℕ → Row → Group
begun m i r = record { place = m.place + 1; from = i; row = record { low = r.low; up = r.up; first = m.row.first + m.row.runs; runs = r.runs } }

-- the group takes row i in if 100 × (runs of the union) < g × (runs of both added), else row i begins the next
unfoldable pub next_group : List ℕ → List ℕ → ℕ → Group → ℕ → Row → Group
next_group left right g m i r = cond (ltb (100 * union_runs left right m i r) (g * (m.row.runs + r.runs))) (joined m r (union_runs left right m i r)) (begun m i r)

-- what a turn needs
pub record Joinable (m : Group) (i : ℕ) (r : Row) (left right : List ℕ) (g : ℕ) : Type 0 where
  pub in_left : r.first + r.runs ≤ length left
  pub in_right : r.first + r.runs ≤ length right
  pub behind : m.row.first + m.row.runs ≤ r.first
  pub few : m.row.runs + r.runs ≤ 4194304
  pub union : touching left right r m.from i ≤ m.row.runs + r.runs
  pub percent : g ≤ 100
  pub place : m.place < i
  pub from : m.from < i
  pub small : i ≤ 4294967295
