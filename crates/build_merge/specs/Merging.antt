-- Merging over packed rows. The rows are sets of windows, window j in row `row j`; the decision is that of `takes`, by counts of names.
use Rattle.std.specs.Prelude.{ℕ, ◌+◌, ◌<◌, ◌≤◌, length, List, [], ◌∷◌, ◌≡◌}
use Rattle.meaning_numbers.specs.Sum.{Σℕ}
use Rattle.meaning_rows.specs.{declared.Row.Row, Runs.run_count, Build.SetRow}
use Rattle.sums_count.specs.Tally.{is_row}
use Rattle.rows_pack.specs.PackedAs.{PackedAs}
use Rattle.build_merge.specs.Names.{NamedRow}

-- ---- rows as sets, packed

-- the rows of the list, from number i on, have the windows of their number
unfoldable pub Numbered : (ℕ → ℕ) → ℕ → ℕ → List SetRow → Type 0
Numbered row n i [] = Unit {0}
Numbered row n i (s ∷ l) = ((j : ℕ) → j < n → s.has j ≡ is_row row i j) × Numbered row n (i + 1) l

-- where the part of row i begins
abbrev pub part_at : (ℕ → ℕ) → ℕ → ℕ → ℕ
part_at row n i = Σℕ i (λ x. run_count (is_row row x) n)

-- the rows of a number of windows, as sets, and the row of each window
pub record Rows : Type 0 where
  pub windows : ℕ
  pub list : List SetRow
  pub row : ℕ → ℕ

-- the rows stand packed, and their parts have the names of their neighbours
pub record Ready (t : Rows) (rows : List Row) (count : ℕ) (left right : List ℕ) : Type 0 where
  pub some : 1 ≤ count
  pub few : count ≤ 4294967295
  pub short : t.windows ≤ 1048576
  pub packed : PackedAs t.windows t.list rows count
  pub numbered : Numbered t.row t.windows 0 t.list
  pub names : (i : ℕ) → i < count → NamedRow t.row t.windows i (part_at t.row t.windows i) left right
  pub in_left : part_at t.row t.windows count ≤ length left
  pub in_right : part_at t.row t.windows count ≤ length right

-- some rows are so
pub record Mergeable (rows : List Row) (count : ℕ) (left right : List ℕ) : Type 0 where
  pub some : Rows
  pub ready : Ready some rows count left right
