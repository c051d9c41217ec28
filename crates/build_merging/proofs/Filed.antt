-- The packed rows of a series can be merged (`filed-standing`).
use Prim.Native.Nat.{ℕ, ◌<◌, ◌≤◌}
use lib.IntN.{ℤ}
use lib.ListN.{length, get_or}
use mathlib.Core.List.{List}
use mathlib.Core.Path.{◌≡◌}
use Rattle.meaning_curves.specs.Curve.{window_sum}
use Rattle.meaning_rows.specs.{declared.Row.Row, Build.filed}
use Rattle.sums_slide.specs.Levels.{Lent, windows_of}
use Rattle.rows_pack.specs.PackedAs.{PackedAs}
use Rattle.build_names.proofs.Packed.{filed-sound}
use Rattle.build_merging.specs.Standing.{Standing}

module _ {s : List ℤ} {w e : ℕ} (d : ℕ) (one : 0 < d) (h : Lent s w e) where
  abbrev sums : ℕ → ℤ
  sums = window_sum s w

  abbrev windows : ℕ
  windows = windows_of s w

  pub filed-standing : (rows : List Row) (count : ℕ) → PackedAs windows (filed sums d windows) rows count → d ≤ 1000000 → (left right : List ℕ) → windows ≤ length left → windows ≤ length right
      → ((x : ℕ) → get_or right x 0 ≡ 0) → Standing s w e rows count left right
  filed-standing rows count p most left right il ir z = record {
    lent = h;
    list = filed sums d windows;
    sound = filed-sound s w e h d one most;
    packed = p;
    in_left = il;
    in_right = ir;
    zeros = z;
  }
