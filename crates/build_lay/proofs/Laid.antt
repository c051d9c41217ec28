-- Laws of specs/Laid.
use Rattle.meaning_numbers.proofs.Prelude.{ℕ, ◌+◌, ◌*◌, ◌≤◌, ℤ, length, take, drop, length-map, take-append_seam, List, ◌++◌, map, ◌≡◌, sym, ap, ◌∙◌, arith}
use Rattle.meaning_curves.specs.Curve.{window_sum}
use Rattle.meaning_rows.specs.{declared.Row.Row, Index.records, Build.SetRow, Build.row_numbers, Build.row_at, Build.filed, Build.with_runs, Build.built_rows}
use Rattle.meaning_rows.proofs.{Laid.length-records, Build.merged-none}
use Rattle.sums_slide.specs.{Levels.windows_of, Table.table}
use Rattle.sums_count.specs.Numbers.{lowered}
use Rattle.sums_count.proofs.Numbers.{table-numbers}
use Rattle.rows_pack.specs.{Packed.Packable, Packed.packed, PackedAs.PackedAs}
use Rattle.rows_pack.proofs.{Packed.length-packed, Records.table_fits, Records.table-packable, Records.built-records}
use Rattle.build_lay.specs.Laid.{LayAsked, LaidOut}

module _ {s : List ℤ} {w e d : ℕ} {left₀ right₀ : List ℕ} (a : LayAsked s w e d left₀ right₀) where
  -- there is room for the rows
  pub rows_fit : length (table s w e d) ≤ windows_of s w
  rows_fit = table_fits d a.rows a.least a.bias a.lent

  module _ {n : ℕ} {left right : List ℕ} (h : LaidOut s w e d n left right) where
    -- their records can be made
    pub laid-packable : Packable left right d (10000 * w + e) n
    laid-packable =
        rw h.count (table-packable d a.rows a.least a.bias a.lent {counts = h.counts} (rw h.count at h.front) (rw h.count at h.in_left) (rw h.count at h.in_right) (rw h.count at h.summed) a.most)

    -- and are those of the rows before merging
    pub laid-packed : (rows : List Row) → n ≤ length rows → PackedAs (windows_of s w) (filed (window_sum s w) d (windows_of s w)) (packed left right d (10000 * w + e) n rows) n
    unfolding built_rows filed row_numbers
    laid-packed rows fits =
        let W = windows_of s w in
        let l = filed (window_sum s w) d W in
        let c = h.count in
        let t = table s w e d in
        let fits' : length t ≤ length rows = omega (arith, c) in
        let is : packed left right d (10000 * w + e) (length t) rows ≡ records 0 (map (with_runs W) l) ++ drop (length t) rows
        = built-records d a.rows a.least a.bias a.lent left h.counts right (rw c at h.front) h.counted (rw c at h.summed) rows fits' ∙ ap (λ (m : List SetRow). records 0 (map (with_runs W) m) ++ drop (length t) rows) (merged-none W l) in
        let many : n ≡ length l = c ∙ sym (length-map t (lowered a.rows)) ∙ ap length (table-numbers d a.rows a.least a.bias a.lent) ∙ sym (length-map (row_numbers (window_sum s w) d W) (row_at (window_sum s w) d)) in
        let long : length (records 0 (map (with_runs W) l)) ≡ length t = length-records 0 (map (with_runs W) l) ∙ length-map l (with_runs W) ∙ sym many ∙ c in
        record {
          many = many;
          within = omega (arith, length-packed left right d (10000 * w + e) n rows);
          front = ap (λ (x : ℕ). take x (packed left right d (10000 * w + e) x rows)) c ∙ ap (take (length t)) is ∙ ap (λ (x : ℕ). take x (records 0 (map (with_runs W) l) ++ drop (length t) rows)) (sym long) ∙ take-append_seam (records 0 (map (with_runs W) l)) (drop (length t) rows);
        }
