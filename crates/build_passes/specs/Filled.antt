-- What stands in the buffers once the parts of a build's rows are filled is its index.
use Rattle.std.specs.Prelude.{ℕ, ◌≤◌, ℤ, length, List, ◌≡◌}
use Rattle.meaning_curves.specs.Curve.{window_sum}
use Rattle.meaning_rows.specs.{declared.Row.Row, Build.built}
use Rattle.meaning_rows.proofs.Build.{merged_rows}
use Rattle.meaning_entries.specs.Buffers.{IndexBuffers, index_in}
use Rattle.sums_slide.specs.Levels.{Lent, windows_of}
use Rattle.rows_pack.specs.PackedAs.{PackedAs}

-- the rows of a build of row width d and merge percentage g are packed in `rows`, and there is room for their runs
pub record Fillable (d g : ℕ) (s : List ℤ) (w e : ℕ) (rows : List Row) (n : ℕ) (left right : List ℕ) : Type 0 where
  pub lent : Lent s w e
  pub least : 1 ≤ d
  pub most : d ≤ 1000000
  pub packed : PackedAs (windows_of s w) (merged_rows (window_sum s w) d g (windows_of s w)) rows n
  pub in_left : windows_of s w ≤ length left
  pub in_right : windows_of s w ≤ length right

-- what merging by percentage g asks, of the rows of a build without merging
abbrev pub MergeAsked : ℕ → ℕ → List ℤ → ℕ → ℕ → List Row → ℕ → List ℕ → List ℕ → Type 0
MergeAsked d g s w e rows n left right = Fillable d 0 s w e rows n left right × (g ≤ 100)

-- and what is packed then
abbrev pub MergedAs : ℕ → ℕ → List ℤ → ℕ → List Row → ℕ → Type 0
MergedAs d g s w rows k = PackedAs (windows_of s w) (merged_rows (window_sum s w) d g (windows_of s w)) rows k

-- the index_buffers hold the index of the series
abbrev pub Holds : ℕ → ℕ → List ℤ → ℕ → IndexBuffers → IndexBuffers → Type 0
Holds d g s w old new = new ≡ index_in (built s w d g) old
