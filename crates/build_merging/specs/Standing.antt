-- Rows of a series that stand packed, with empty parts long enough for all runs: they can be named, and then merged.
use Rattle.std.specs.Prelude.{ℕ, ◌≤◌, ℤ, length, get_or, List, ◌≡◌}
use Rattle.meaning_curves.specs.Curve.{window_sum}
use Rattle.meaning_rows.specs.{declared.Row.Row, Build.SetRow}
use Rattle.sums_slide.specs.Levels.{Lent, windows_of}
use Rattle.rows_pack.specs.PackedAs.{PackedAs}
use Rattle.build_names.specs.Packed.{Sound}

pub record Standing (s : List ℤ) (w e : ℕ) (rows : List Row) (count : ℕ) (left right : List ℕ) : Type 0 where
  pub lent : Lent s w e
  pub list : List SetRow
  pub sound : Sound (window_sum s w) (windows_of s w) list
  pub packed : PackedAs (windows_of s w) list rows count
  pub in_left : windows_of s w ≤ length left
  pub in_right : windows_of s w ≤ length right
  pub zeros : (x : ℕ) → get_or right x 0 ≡ 0
