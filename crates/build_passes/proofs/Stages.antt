-- What each stage of a build asks, by what the stages before it left: rows that are laid out, merged, filled.
use Rattle.meaning_numbers.proofs.Prelude.{◌≡◌, true, List, ℕ, arith, eqb, ℤ, length, eqb-true}
use Rattle.meaning_curves.specs.Curve.{window_sum}
use Rattle.meaning_rows.specs.{declared.Row.Row, Build.SetRow, Build.filed, Build.merged}
use Rattle.meaning_rows.proofs.Build.{merged-none}
use Rattle.sums_slide.specs.Levels.{windows_of}
use Rattle.rows_pack.specs.PackedAs.{PackedAs}
use Rattle.build_lay.specs.Laid.{Cleared, LayAsked}
use Rattle.build_names.specs.Packed.{Sound}
use Rattle.build_names.proofs.Packed.{filed-sound}
use Rattle.build_merging.specs.Standing.{Standing}
use Rattle.build_merging.proofs.Filed.{filed-standing}
use Rattle.build_passes.specs.Filled.{Fillable, MergedAs}

-- the rows of a series before merging
abbrev Laid : List ℤ → ℕ → ℕ → List SetRow
Laid s w d = filed (window_sum s w) d (windows_of s w)

pub laid-unmerged : (s : List ℤ) (w d : ℕ) {n : ℕ} {rows : List Row} → PackedAs (windows_of s w) (Laid s w d) rows n → MergedAs d 0 s w rows n
laid-unmerged s w d {n} {rows} p = rw (merged-none _ _) p

pub fillable : (h : ℕ) {s : List ℤ} {w e d k : ℕ} {left right l r : List ℕ} {rows : List Row} → LayAsked s w e d left right → MergedAs d h s w rows k → length l ≡ length left → length r ≡ length right → Fillable d h s w e rows k l r
fillable h a packed long-l long-r = record {
  lent = a.lent;
  least = a.least;
  most = a.most;
  packed = packed;
  in_left = omega arith;
  in_right = omega arith;
}

module _ {s : List ℤ} {w e d n : ℕ} {rows : List Row} {left right : List ℕ} (a : Fillable d 0 s w e rows n left right) where
  -- g is 0
  pub none-merged : (g : ℕ) → eqb g 0 ≡ true → MergedAs d g s w rows n
  none-merged g z = rw (eqb-true g 0 z) a.packed

  laid : PackedAs (windows_of s w) (Laid s w d) rows n
  laid = rw (merged-none _ _) at a.packed

  pub merge-standing : {l r : List ℕ} → Cleared left l × Cleared right r → Standing s w e rows n l r
  merge-standing {l} {r} c = filed-standing d a.least a.lent rows n laid a.most l r (omega arith) (omega arith) c.1.zero

  pub merged-as : (g : ℕ) {rows' : List Row} {k : ℕ} → ((l : List SetRow) → Sound (window_sum s w) (windows_of s w) l → PackedAs (windows_of s w) l rows n → PackedAs (windows_of s w) (merged g (windows_of s w) l) rows' k) → MergedAs d g s w rows' k
  merged-as g said = said _ (filed-sound s w e a.lent d a.least a.most) laid
