-- What stands in the index_buffers once the parts of a build's rows are filled is its index (`finished`).
use Rattle.meaning_numbers.specs.Sum.{Σℕ}
use Rattle.meaning_numbers.proofs.Sum.{Σℕ-same, Σℕ-more}
use Rattle.meaning_numbers.proofs.Prelude.{◌≡◌, sym, ap, ◌∙◌, List, [], ◌∷◌, ◌++◌, map, ℕ, ◌+◌, ◌-◌, ◌<◌, ◌≤◌, arith, ℤ, nat_abs, length, get_or, take, replicate, length-append, length-map, List·get_d-append, take-append_seam}
use Rattle.meaning_curves.specs.Curve.{window_sum}
use Rattle.meaning_rows.specs.{declared.Row.Row, Runs.runs, Runs.run_count, Index.RangeRow, Index.records, Index.all_runs, Build.SetRow, Build.entry, Build.with_runs, Build.built_rows, Build.built}
use Rattle.meaning_rows.proofs.{Build.merged_rows, Build.built-runs, Laid.length-records, LaidAt.records-at, LaidAt.runs-total, LaidAt.column-at}
use Rattle.meaning_entries.specs.Buffers.{IndexBuffers, filled, index_in, lefts, rights, index_buffers}
use Rattle.meaning_entries.proofs.Filled.{filled_is, lefts-entry, rights-entry, zeros}
use Rattle.rows_records.specs.Records.{zero_row}
use Rattle.sums_slide.specs.{declared.Window.Window, Levels.windows_of}
use Rattle.rows_pack.specs.PackedAs.{PackedAs}
use Rattle.build_lay.specs.Laid.{Cleared}
use Rattle.build_fill.specs.{Pass.part_start, Pass.parts_total, Pass.filling-start, Pass.Passable, Pass.PassMade, Turn.At}
use Rattle.build_passes.specs.Filled.{Fillable, Holds}
use Rattle.build_passes.proofs.Rowed.{no_row, tests, built-rowed}

-- where no row is laid out, a record of zeros stands first
no_part : {X : Type 0} (G : X → RangeRow) (old : List Row) → let r = get_or (filled zero_row (records 0 (map G [])) old) 0 zero_row in r.first + r.runs ≡ length (all_runs (map G []))
unfolding filled records all_runs
no_part G old = rw (zeros zero_row _ 0)

-- of rows laid out in a buffer, the part of the last ends where all parts end
pub last-part : {X : Type 0} (o : X) (G : X → RangeRow) (t : List X) (old : List Row) → let r = get_or (filled zero_row (records 0 (map G t)) old) (length t - 1) zero_row in r.first + r.runs ≡ length (all_runs (map G t))
unfolding filled
last-part o G [] old = no_part G old
last-part o G (x ∷ l) old =
    let t = x ∷ l in
    let made = records 0 _ in
    let i : length t - 1 < length t = omega arith in
    let f : ℕ → ℕ = λ y. length (G (get_or t y o)).runs in
    let c : length t - 1 + 1 ≡ length t = omega arith in
    let r = List·get_d-append made (replicate (length old - length made) zero_row) zero_row _ (omega (arith, i, length-records 0 (map G t), length-map t G)) ∙ records-at o G zero_row 0 t _ i in
    omega (arith, ap (λ (q : Row). q.first) r, ap (λ (q : Row). q.runs) r, Σℕ-more (length t - 1) f, ap (λ (y : ℕ). Σℕ y f) c, runs-total o G t)

module _ {d g : ℕ} {s : List ℤ} {w e : ℕ} {rows : List Row} {n : ℕ} {left₀ right₀ : List ℕ} (h : Fillable d g s w e rows n left₀ right₀) where
  abbrev W : ℕ
  W = windows_of s w

  abbrev l : List SetRow
  l = merged_rows (window_sum s w) d g W

  size_is : (i : ℕ) → length (with_runs W (get_or l i no_row)).runs ≡ run_count (tests l i) W
  unfolding with_runs
  size_is i = length-map (runs _ W) entry

  total-is : length (all_runs (map (with_runs W) l)) ≡ parts_total n W (tests l)
  total-is =
      runs-total no_row _ l ∙ Σℕ-same _ (λ y. length (with_runs W _).runs) (λ y. run_count _ W) (λ y b. size_is y)
      ∙ rw (sym h.packed.many)

  total-fits : parts_total n W (tests l) ≤ W
  unfolding built_rows
  total-fits = omega (arith, total-is, built-runs (window_sum s w) d W h.least g)

  -- the records behind the rows made 0
  abbrev cleared : List Row
  cleared = take n rows ++ replicate (length rows - n) zero_row

  front_long : length (take n rows) ≡ n
  front_long = ap length h.packed.front ∙ length-records 0 (map (with_runs W) l) ∙ length-map l (with_runs W) ∙ sym h.packed.many

  cleared-packed : PackedAs W l cleared n
  cleared-packed =
      let rest = replicate (length rows - n) zero_row in
      record {
        many = h.packed.many;
        within = omega (arith, front_long, length-append (take n rows) rest);
        front = ap (λ x. take x cleared) (sym front_long) ∙ take-append_seam _ rest ∙ h.packed.front;
      }

  module _ {left right : List ℕ} (cl : Cleared left₀ left) (cr : Cleared right₀ right) where
    -- the pass can begin
    pub starts : {p : Window} → At s w e p → p.offset ≡ 0 → Passable (tests l) s w e p cleared n left right
    starts {p} a z = record {
      place = a;
      rowed = rw z (built-rowed d g h.least h.most h.lent cleared-packed);
      filling = rw z (filling-start n W _ left right cr.zero (omega (arith, total-fits, cl.long, h.in_left)) (omega (arith, total-fits)));
    }

    -- and where it ends
    module _ {left' right' : List ℕ} (f : PassMade (tests l) s w n left right left' right') where
      start_is : (i : ℕ) → Σℕ i (λ y. length (with_runs W (get_or l y no_row)).runs) ≡ part_start n W (tests l) i
      start_is i = Σℕ-same i (λ y. length (with_runs W _).runs) (λ y. run_count _ W) (λ y b. size_is y)

      left_is : left' ≡ filled 0 (lefts (all_runs (map (with_runs W) l))) left₀
      unfolding with_runs
      left_is =
          let m = length-map (all_runs (map (with_runs W) l)) (λ e. nat_abs e.0) in
          filled_is _ left₀ left' (f.long-left ∙ cl.long) (omega (arith, m, total-is, total-fits, h.in_left))
          (λ x b. column-at no_row _ (λ e. nat_abs e.0) left' l
          (λ i u a c. rw (start_is i, lefts-entry _) (f.parts.left_is i u (omega arith) (omega (arith, size_is i)))) x (omega (arith, m)))
          (λ x b. f.past-left x (omega (arith, m, total-is)) ∙ cl.zero x)

      right_is : right' ≡ filled 0 (rights (all_runs (map (with_runs W) l))) right₀
      unfolding with_runs
      right_is =
          let m = length-map (all_runs (map (with_runs W) l)) (λ e. nat_abs e.1) in
          filled_is _ right₀ right' (f.long-right ∙ cr.long) (omega (arith, m, total-is, total-fits, h.in_right))
          (λ x b. column-at no_row _ (λ e. nat_abs e.1) right' l
          (λ i u a c. rw (start_is i, rights-entry _) (f.parts.right_is i u (omega arith) (omega (arith, size_is i)))) x (omega (arith, m)))
          (λ x b. f.past-right x (omega (arith, m, total-is)) ∙ cr.zero x)

      rows_is : cleared ≡ filled zero_row (records 0 (map (with_runs W) l)) rows
      unfolding filled
      rows_is =
          let a = records 0 _ in
          let long = h.packed.many ∙ sym (length-records 0 _ ∙ length-map l _) in
          ap (λ m. m ++ replicate (length rows - n) zero_row) h.packed.front ∙ ap (λ x. a ++ replicate (length rows - x) zero_row) long

      pub finished : Holds d g s w (index_buffers rows left₀ right₀) (index_buffers cleared left' right')
      unfolding index_in built built_rows
      finished = λ i. record { rows = rows_is i; left = left_is i; right = right_is i }

-- only how long the index_buffers were matters
pub holds_same : (d g : ℕ) (s : List ℤ) (w : ℕ) {new : IndexBuffers} (rows rows₀ : List Row) (left left₀ right right₀ : List ℕ) → length rows ≡ length rows₀ → length left ≡ length left₀ → length right ≡ length right₀
    → Holds d g s w (index_buffers rows left right) new → Holds d g s w (index_buffers rows₀ left₀ right₀) new
unfolding index_in filled
holds_same d g s w rows rows₀ left left₀ right right₀ a b c h =
    let x = built s w d g in
    h ∙ (λ i. record {
      rows = x.rows ++ replicate (a i - length x.rows) zero_row;
      left = lefts x.runs ++ replicate (b i - length (lefts x.runs)) 0;
      right = rights x.runs ++ replicate (c i - length (rights x.runs)) 0;
    })

-- the rows of a build, counted
pub rows-counted : {n : ℕ} (d g : ℕ) (s : List ℤ) (w : ℕ) → n ≡ length (merged_rows (window_sum s w) d g (windows_of s w)) → n ≡ length (built s w d g).rows
unfolding built built_rows
rows-counted {n} d g s w e = let l = merged_rows _ d g _ in e ∙ sym (length-records 0 _ ∙ length-map l _)
