-- A turn of the pass: one run of windows with sums in the range of a row, filed in the row's part.
use Rattle.std.specs.Prelude.{ℕ, ◌+◌, ◌-◌, ◌<◌, ◌≤◌, ℤ, pos, negsuc, set, ◌≤ℤ◌, true, List, ◌≡◌}
use Rattle.meaning_curves.specs.Curve.{window_sum}
use Rattle.meaning_rows.specs.{declared.Row.Row, Range.inside}
use Rattle.meaning_rows.proofs.Cursors.{file_right}
use Rattle.sums_slide.specs.{declared.Window.Window, Levels.level, Levels.Lent, Levels.windows_of, Change.Change}
use Rattle.build_parts.specs.Part.{written, PartRoom}

-- both ends are far from what 32 bits hold
pub record Small (r : Row) : Type 0 where
  pub least : negsuc 999999999 ≤ℤ r.low
  pub order : r.low ≤ℤ r.up
  pub most : r.up ≤ℤ pos 1000000000

-- a window with its raised sum
pub record At (s : List ℤ) (w e : ℕ) (at : Window) : Type 0 where
  pub lent : Lent s w e
  pub below : at.offset ≤ windows_of s w
  pub sum : at.level ≡ level s w e at.offset

pub record TurnAsked (s : List ℤ) (w e : ℕ) (at : Window) (r : Row) (left right : List ℕ) : Type 0 where
  pub place : At s w e at
  pub below : at.offset < windows_of s w
  pub held : inside r.low r.up (window_sum s w at.offset) ≡ true
  pub small : Small r
  pub room : PartRoom r left right

-- the run that begins at `from` ends at t, and is filed
pub record Turned (s : List ℤ) (w e from : ℕ) (r : Row) (left right : List ℕ) (t : Window) (left' right' : List ℕ) : Type 0 where
  pub change : Change (λ j. inside r.low r.up (window_sum s w j)) from (windows_of s w) t.offset
  pub sum : t.level ≡ level s w e t.offset
  pub left_is : left' ≡ set left (r.first + written r right) from
  pub right_is : right' ≡ file_right right r.first r.runs (written r right) (t.offset - 1)
