-- `count_new`: a window begins a run of the row that is found by rank, and the next window begins where that run ends (`counted-turn`, `fresh-next`).
use Rattle.meaning_numbers.proofs.Prelude.{◌≡◌, sym, ap, ◌∙◌, subst, List, ℕ, ℤ, ◌≤◌, ◌<◌, arith, get_or}
use Rattle.meaning_rows.proofs.Runs.{runs-le}
use Rattle.sums_slide.specs.{Levels.level, Levels.windows_of, Change.RowRun}
use Rattle.sums_count.specs.Tally.{is_row}
use Rattle.sums_count.proofs.Tally.{fresh-next}
use Rattle.rows_pack.specs.Packed.{start_of}
use Rattle.extend_count.specs.{Rank.rank, Count.row_from, Count.Countable, Count.Counted}
use Rattle.extend_count.proofs as own
use own.Count.{row_new, counted-starts, fresh-old, next-run, counted-turn}
use Rattle.extend_count.proofs.count_new.Goals as goal

pub loop-at-init : goal.loop-at-init
loop-at-init c =
    let a = c.args in (
      omega arith,
      c.requires.some_left,
      c.level_at.ensures,
      fresh-old _ a.w a.e _ _ _ c.requires.has-row,
      counted-starts _ a.w a.e _ _ _ _,
    )

-- the row i of window j, by rank
module _ {s : List ℤ} {w e old : ℕ} {ups : List ℕ} {count : ℕ} {before : List ℕ} (can : Countable s w e old ups count before) {j n i : ℕ}
    (from : old ≤ j) (left : j < windows_of s w) (level_is : n ≡ level s w e j) (found : i ≡ rank ups count n) where
  found-row : i ≡ row_from s w e old ups count j
  found-row = found ∙ ap (rank ups count) level_is ∙ sym (row_new s w e old ups count j from)

  below : i < count
  below = subst (λ k. k < count) (sym (found ∙ ap (rank ups count) level_is)) (can.has-row j from left)

  few : {counts : List ℕ} → Counted s w e old ups count before j counts → get_or counts i 0 ≤ 2097153
  few v = omega (arith, v.count _ below, can.small _ below, runs-le (is_row (row_from s w e old ups count) i) j, can.lent.long)

pub overflow_add-counts : goal.overflow_add-counts
overflow_add-counts c =
    let v = c.loop-at.invariant in
    omega (arith, few c.requires v.0 c.loop-at-test.true (v.2 c.loop-at-test.true) c.find_above-i.ensures v.4)

module _ (c : goal.After-next_out-at) where
  is-row : c.find_above-i.result ≡ row_from c.args.s.now c.args.w c.args.e c.args.old c.args.ups.now c.args.count c.loop-at.at.offset
  is-row = let v = c.loop-at.invariant in found-row c.requires v.0 c.loop-at-test.true (v.2 c.loop-at-test.true) c.find_above-i.ensures

  -- the run that begins at the window
  run : RowRun (row_from c.args.s.now c.args.w c.args.e c.args.old c.args.ups.now c.args.count) (windows_of c.args.s.now c.args.w) c.loop-at.at.offset c.next_out-at.result.offset
  run =
      let a = c.args in
      next-run _ a.w a.e _ _ _ c.requires.has-row c.requires.climbing {z = c.next_out-at.result.level} c.loop-at.invariant.0 c.loop-at-test.true
      (rw (← (c.start_of-low.ensures ∙ ap (start_of _) is-row), ← (ap (λ k. get_or a.ups.now k 0) is-row)) c.next_out-at.ensures)

pub loop-at-smaller : goal.loop-at-smaller
loop-at-smaller c = omega (arith, (run c).ahead, (run c).below)

pub loop-at-preserved : goal.loop-at-preserved
loop-at-preserved c =
    let a = c.args in
    let v = c.loop-at.invariant in
    let h = run c in
    let i_count = below c.requires v.0 c.loop-at-test.true (v.2 c.loop-at-test.true) c.find_above-i.ensures in
    let turn = counted-turn _ a.w a.e _ _ _ h v.3 (subst (λ k. k < a.count) (is-row c) i_count) (omega arith) v.4 in (
      omega arith,
      h.below,
      λ _. c.next_out-at.ensures.sum,
      fresh-next _ _ _ _ h,
      rw (is-row c) turn,
    )
