-- What packing the records of a series' rows asks and gives, once the rows are laid out.
use Rattle.meaning_numbers.proofs.Prelude.{ℕ, ◌+◌, ◌*◌, ◌≤◌, ℤ, length, List, ◌≡◌, arith}
use Rattle.meaning_curves.specs.Curve.{window_sum}
use Rattle.meaning_rows.specs.{declared.Row.Row, Build.filed}
use Rattle.sums_slide.specs.Levels.{windows_of}
use Rattle.rows_pack.specs.{Packed.Packable, Packed.packed, PackedAs.PackedAs}
use Rattle.build_lay.specs.Laid.{LayAsked, LaidOut}
use Rattle.build_lay.proofs.Laid.{rows_fit, laid-packable, laid-packed}

module _ {s : List ℤ} {w e d bias : ℕ} {left right : List ℕ} (rows : List Row) (asked : LayAsked s w e d left right × (bias ≡ 10000 * w + e) × (windows_of s w ≤ length rows)) {n : ℕ} {l r : List ℕ} (laid : LaidOut s w e d n l r) where
  fits-rows : n ≤ length rows
  fits-rows = omega (arith, laid.count, rows_fit asked.0, asked.2)

  pub lay-packs : (n ≤ length rows) × Packable l r d bias n
  lay-packs = (fits-rows, rw asked.1 (laid-packable asked.0 laid))

  pub lay-packed : PackedAs (windows_of s w) (filed (window_sum s w) d (windows_of s w)) (packed l r d bias n rows) n
  lay-packed = rw asked.1 (laid-packed asked.0 laid rows fits-rows)
