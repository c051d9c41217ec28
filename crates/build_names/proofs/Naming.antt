-- The pass that names the neighbours of all runs, by runs: what holds after the windows below j (`Naming`), how it begins, a turn, which names the neighbours of one run in the part of its row (`naming-run`), and the end (`naming-end`).
use Rattle.meaning_numbers.proofs.Prelude.{◌≡◌, sym, ◌∙◌, true, false, List, ℕ, suc, ◌+◌, ◌-◌, ◌<◌, ◌≤◌, arith, length, get_or, set, length-set, eq-eqb, ne_eqb}
use Rattle.meaning_rows.specs.Runs.{run_count}
use Rattle.meaning_rows.proofs.Cursors.{Cursors, PartsAs, parts-as-start, cursors-start, file_right, length-file, filed-as, cursors-run}
use Rattle.meaning_rows.proofs.{Parts.Laid, Columns.run_count-mono}
use Rattle.sums_slide.specs.Change.{RowRun}
use Rattle.sums_count.specs.Tally.{is_row}
use Rattle.sums_count.proofs.Tally.{Fresh, fresh_start, fresh-next, run-mine}
use Rattle.build_parts.proofs.FillingLaws.{parts-laid}
use Rattle.build_merge.specs.{Names.name_at, Names.name_before, Names.name_after, Names.NamedRow, Merging.part_at}

module _ (row : ℕ → ℕ) (n R : ℕ) where
  pub record Naming (j : ℕ) (left right : List ℕ) : Type 0 where
    pub parts : PartsAs R n (is_row row) (part_at row n) (name_before row n) (name_after row n) j left right
    pub cursors : Cursors R n (is_row row) (part_at row n) j right
    pub fresh : Fresh row n j
    pub in_left : part_at row n R ≤ length left
    pub in_right : part_at row n R ≤ length right

  -- buffers long enough, the right one of zeros
  pub naming-start : (left right : List ℕ) → ((x : ℕ) → get_or right x 0 ≡ 0) → part_at row n R ≤ length left → part_at row n R ≤ length right → Naming 0 left right
  naming-start left right z a b = record {
    parts = parts-as-start R n _ _ _ _ left right;
    cursors = cursors-start R n _ _ right z;
    fresh = fresh_start row n;
    in_left = a;
    in_right = b;
  }

  abbrev laid : Laid R n (is_row row) (part_at row n) (part_at row n R)
  laid = parts-laid R n (is_row row)

  module _ (from r : ℕ) (h : RowRun row n from r) (l : row from < R) (left right : List ℕ) (f : Naming from left right) where
    -- the row, how many of its runs are written, and how many it has
    abbrev i : ℕ
    i = row from

    abbrev t : ℕ
    t = run_count (is_row row i) from

    abbrev all : ℕ
    all = run_count (is_row row i) n

    -- the part is not full
    pub naming-more : t < all
    naming-more = omega (arith, run-mine row n from r h f.fresh, run_count-mono (is_row row i) r n h.below)

    pub naming-written : get_or right (part_at row n i + all - 1) 0 ≡ t
    naming-written = f.cursors.cursor i l naming-more

    pub naming-room : (part_at row n i + all ≤ length left) × (part_at row n i + all ≤ length right)
    naming-room = (omega (arith, laid.room i l, f.in_left), omega (arith, laid.room i l, f.in_right))

    abbrev left' : List ℕ
    left' = set left (part_at row n i + t) (name_before row n from)

    abbrev right' : List ℕ
    right' = file_right right (part_at row n i) all t (name_at row n r)

    pub naming-run : Naming r left' right'
    unfolding is_row
    naming-run =
        let d = r - from - 1 in
        let end : from + suc d ≡ r = omega arith in
        let next : suc (from + d) ≡ r = omega arith in
        let cut = f.fresh.cut (omega arith) in
        let mine : (j : ℕ) → from ≤ j → j < from + suc d → is_row row i j ≡ true = λ j a b. eq-eqb (row j) i (h.same j (omega arith) a) in
        let others : (j k : ℕ) → from ≤ j → j < from + suc d → k < R → (k ≡ i → ⊥) → is_row row k j ≡ false = λ j k a b m q. ne_eqb (row j) k (λ e. q (sym e ∙ h.same j (omega arith) a)) in
        let p = filed-as R n _ _ _ laid i from d l cut (omega arith) mine others _ _ left right f.in_left f.in_right f.parts in
        let c = cursors-run R n _ _ _ laid i from d l cut (omega arith) mine others right (name_after row n (from + d)) f.in_right f.cursors in
        record {
          parts = rw (end, next) at p;
          cursors = rw (end, next) at c;
          fresh = fresh-next row n from r h;
          in_left = omega (arith, f.in_left, length-set left (part_at row n i + t) (name_before row n from));
          in_right = omega (arith, f.in_right, length-file right (part_at row n i) all t (name_at row n r));
        }

  pub naming-end : (left right : List ℕ) → Naming n left right → (i : ℕ) → i < R → NamedRow row n i (part_at row n i) left right
  naming-end left right f i l = record { left_is = λ t m. f.parts.left_as i t l m; right_is = λ t m. f.parts.right-as i t l m }
