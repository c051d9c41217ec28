-- Laws of the pass that fills all parts: the parts lie apart, how the pass begins, and a turn, which files one run in the part of its row (`filling-run`).
use Rattle.std.specs.Prelude.{ℕ, suc, ◌+◌, ◌-◌, ◌<◌, ◌≤◌, length, get_or, set, Bool, true, false, List, ◌≡◌, refl}
use Rattle.std.proofs.Common.{length-set, get_or-set_other, sym, ap, ◌∙◌, arith}
use Rattle.meaning_numbers.specs.Sum.{Σℕ}
use Rattle.meaning_numbers.proofs.{Sum.Σℕ-more, Sum.Σℕ-fewer, Tests.clash}
use Rattle.meaning_rows.specs.Runs.{before, run_count}
use Rattle.meaning_rows.proofs.Cursors.{cursors-start, file_right, length-file, filed-other, filed-run}
use Rattle.meaning_rows.proofs.{Runs.before-none, Runs.before_more, Columns.run_count-mono, Parts.Laid, Parts.parts-start, Parts.run-count}
use Rattle.build_parts.specs.Filling.{part_start, parts_total, Filling, RunOf}

module _ (R W : ℕ) (P : ℕ → ℕ → Bool) where
  -- parts that begin at the sums of the sizes before lie apart, inside their total
  pub parts-laid : Laid R W P (part_start R W P) (parts_total R W P)
  parts-laid =
      let s : ℕ → ℕ = λ x. run_count (P x) W in
      record {
        apart = λ i k l h. omega (arith, Σℕ-more i s, Σℕ-fewer (i + 1) k s (omega arith));
        room = λ i h. omega (arith, Σℕ-more i s, Σℕ-fewer (i + 1) R s (omega arith));
      }

  module _ (left₀ right₀ : List ℕ) where
    -- the part of a row whose window is next is not full, and its last right end says how many runs are written
    module _ {i from : ℕ} (row : i < R) (below : from < W) (is : P i from ≡ true) {left right : List ℕ} (f : Filling R W P left₀ right₀ from left right) where
      pub some_left : run_count (P i) from < run_count (P i) W
      some_left =
          let one : run_count (P i) (from + 1) ≡ run_count (P i) from + 1 = run-count (P i) from 0 (f.fresh i row below is) (λ j a b. let e : j ≡ from = omega arith in ap (P i) e ∙ is) in
          omega (arith, one, run_count-mono (P i) (from + 1) W (omega arith))

      pub cursor-is : get_or right (part_start R W P i + run_count (P i) W - 1) 0 ≡ run_count (P i) from
      cursor-is = f.cursors.cursor i row some_left

    module _ {i from r : ℕ} (h : RunOf R W P left₀ right₀ i from r) (left right : List ℕ) (f : Filling R W P left₀ right₀ from left right) where
      abbrev size : ℕ
      size = run_count (P i) W

      -- how many runs of the row are written
      abbrev done : ℕ
      done = run_count (P i) from

      abbrev d : ℕ
      d = r - from - 1

      end : from + suc d ≡ r
      end = omega (arith, h.ahead)

      here : P i from ≡ true
      here = h.mine from (omega arith) h.ahead

      less : done < size
      less = some_left h.row (omega (arith, h.ahead, h.below)) here f

      cut : before (P i) from ≡ false
      cut = f.fresh i h.row (omega (arith, h.ahead, h.below)) here

      room : part_start R W P i + size ≤ parts_total R W P
      room = parts-laid.room i h.row

      next-fresh : (k : ℕ) → k < R → r < W → P k r ≡ true → before (P k) r ≡ false
      next-fresh k l m t =
          let e : r ≡ (r - 1) + 1 = omega (arith, h.ahead) in
          let other : (k ≡ i) → ⊥ = λ q. clash (ap (λ (x : ℕ). P x r) (sym q) ∙ t) (h.stops m) in
          ap (before (P k)) e ∙ before_more (P k) (r - 1) ∙ h.others (r - 1) k (omega (arith, h.ahead)) (omega (arith, h.ahead)) l other

      pub filling-run : Filling R W P left₀ right₀ r (set left (part_start R W P i + done) from) (file_right right (part_start R W P i) size done (r - 1))
      filling-run =
          let last : from + d ≡ r - 1 = omega (arith, h.ahead) in
          let g = filed-run R W P (part_start R W P) (parts_total R W P) parts-laid i from d h.row cut (omega (arith, end, h.below))
          (λ j a b. h.mine j a (omega (arith, end))) (λ j k a b. h.others j k a (omega (arith, end))) left right f.in_left f.in_right f.parts f.cursors in
          let l = length-set left (part_start R W P i + done) from in
          let m = length-file right (part_start R W P i) size done (r - 1) in
          let p = rw (end, last) at g.0 in
          let c = rw (end, last) at g.1 in
          record {
            parts = p;
            cursors = c;
            fresh = next-fresh;
            in_left = omega (arith, f.in_left, l);
            in_right = omega (arith, f.in_right, m);
            past-left = λ x b. get_or-set_other left (part_start R W P i + done) x from 0 (λ q. omega (arith, less, room)) ∙ f.past-left x b;
            past-right = λ x b. filed-other right (part_start R W P i) size done (r - 1) x (λ q. omega (arith, less, room)) (λ q. omega (arith, less, room)) ∙ f.past-right x b;
            long-left = l ∙ f.long-left;
            long-right = m ∙ f.long-right;
          }

  -- buffers long enough, with 0 in the right one: as it begins
  pub filling-start : (left right : List ℕ) → ((x : ℕ) → get_or right x 0 ≡ 0) → parts_total R W P ≤ length left → parts_total R W P ≤ length right → Filling R W P left right 0 left right
  filling-start left right z a b = record {
    parts = parts-start R W P (part_start R W P) left right;
    cursors = cursors-start R W P (part_start R W P) right z;
    fresh = λ i l m t. before-none (P i);
    in_left = a;
    in_right = b;
    past-left = λ x l. refl;
    past-right = λ x l. refl;
    long-left = refl;
    long-right = refl;
  }
