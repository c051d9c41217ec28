-- The passes of an extension, one after the other: what each asks follows from what those before it left, and at the end the buffers hold the extended index.
use Rattle.std.specs.Prelude.{ℕ, ◌+◌, ◌*◌, ◌≤◌, ℤ, pos, length, List, ◌≡◌}
use Rattle.meaning_rows.specs.{declared.Row.Row, Index.Index, Index.entries}
use Rattle.meaning_rows.proofs.{Judge.WellFormed, Extend.Extendable}
use Rattle.sums_slide.specs.Levels.{Lent, windows_of}

-- the index of these numbers and slices
abbrev pub index_of : ℕ → ℕ → ℕ → List Row → List ℕ → List ℕ → Index
index_of w d old rows left right = record { window = pos w; width = pos d; windows = pos old; rows = rows; runs = entries left right }

-- a lent index that can be extended over the series, what sums are raised by, and room
pub record PassesAsked (s : List ℤ) (w e d b old : ℕ) (from : List Row) (lefts rights : List ℕ) (rows : List Row) (left right : List ℕ) : Type 0 where
  pub formed : WellFormed (index_of w d old from lefts rights)
  pub longer : Extendable (index_of w d old from lefts rights) s
  pub lent : Lent s w e
  pub bias : 10000 * w + e ≡ b * d
  pub in_rows : windows_of s w ≤ length rows
  pub in_left : windows_of s w ≤ length left
  pub in_right : windows_of s w ≤ length right
