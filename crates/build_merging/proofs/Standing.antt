-- Laws of specs/Standing.
use Prim.Native.Nat.{ℕ, ◌<◌}
use lib.IntN.{ℤ}
use lib.ListN.{length}
use mathlib.Core.List.{List}
use mathlib.Core.Path.{◌≡◌}
use native.Mathlib.Omega.{arith}
use Rattle.meaning_curves.specs.Curve.{window_sum}
use Rattle.meaning_rows.specs.{declared.Row.Row, Build.SetRow}
use Rattle.sums_slide.specs.Levels.{windows_of}
use Rattle.rows_pack.specs.PackedAs.{PackedAs}
use Rattle.build_merge.specs.{Names.NamedRow, Merging.Rows, Merging.Ready, Merging.Mergeable, Merging.part_at}
use Rattle.build_names.specs.{Ranges.row_in, Places.Unnamed, Packed.Sound}
use Rattle.build_names.proofs.Packed.{packed-unnamed, packed-ready}
use Rattle.build_merging.specs.Standing.{Standing}

-- the parts have the names
abbrev pub Named : List ℤ → ℕ → List Row → ℕ → List ℕ → List ℕ → Type 0
Named s w rows count left right = (i : ℕ) → i < count → NamedRow (row_in rows count (window_sum s w)) (windows_of s w) i (part_at (row_in rows count (window_sum s w)) (windows_of s w) i) left right

module _ (s : List ℤ) (w e : ℕ) (rows : List Row) (count : ℕ) (left₀ right₀ : List ℕ) (z : Standing s w e rows count left₀ right₀) where
  pub standing-unnamed : Unnamed s w e rows count left₀ right₀
  standing-unnamed = packed-unnamed s w e z.lent z.list rows count z.sound z.packed left₀ right₀ z.in_left z.in_right z.zeros

  module _ (left right : List ℕ) (el : length left ≡ length left₀) (er : length right ≡ length right₀) (names : Named s w rows count left right) where
    -- whatever rows stand packed
    abbrev pub rows_of : List SetRow → Rows
    rows_of l = record { windows = windows_of s w; list = l; row = row_in rows count (window_sum s w) }

    pub standing-ready : (l : List SetRow) → Sound (window_sum s w) (windows_of s w) l → PackedAs (windows_of s w) l rows count → Ready (rows_of l) rows count left right
    standing-ready l g p = packed-ready s w e z.lent l rows count g p left right (omega (arith, z.in_left, el)) (omega (arith, z.in_right, er)) names

    pub standing-mergeable : Mergeable rows count left right
    standing-mergeable = record { some = rows_of z.list; ready = standing-ready z.list z.sound z.packed }
