use Rattle.meaning_numbers.proofs.Prelude.{◌≡◌, refl, sym, ap, ◌∙◌, List, ℕ, ◌+◌, ◌/◌, ◌<◌, arith, ℤ, length, get_or, length-set}
use Rattle.meaning_rows.proofs.Runs.{runs-le}
use Rattle.sums_slide.specs.{Levels.level, Levels.row_of, Levels.level-small, Table.table}
use Rattle.sums_count.specs.Tally.{is_row}
use Rattle.sums_count.proofs as own
use own.Tally.{fresh_start, fresh-next, counted_start, counted-run}
use own.Rows.{table-rises, table-has, front_at, front-rising, front-has}
use Rattle.sums_count.proofs.count_runs.Goals as goal

-- the row number of the window at hand
number : (s : List ℤ) (w e d j : ℕ) {k n : ℕ} → k ≡ n / d → n ≡ level s w e j → k ≡ row_of (level s w e) d j
unfolding row_of
number s w e d j p q = p ∙ ap (λ (x : ℕ). x / d) q

pub loop-at-init : goal.loop-at-init
loop-at-init c =
    rw c.first_place-at.ensures (omega arith, refl, fresh_start _ _, counted_start _ _ _ c.requires.by_index, refl)

pub row_of_level-k-requires-clause-n_bound : goal.row_of_level-k-requires-clause-n_bound
row_of_level-k-requires-clause-n_bound c = omega (arith, c.loop-at.invariant.1, level-small c.loop-at.at.offset c.requires.lent)

pub find_number-i-requires-clause-rising : goal.find_number-i-requires-clause-rising
find_number-i-requires-clause-rising c =
    let a = c.args in
    front-rising _ _ _ c.requires.count_value.1 c.requires.count_value.0 (table-rises _ a.w a.e a.d)

pub find_number-i-requires-clause-has : goal.find_number-i-requires-clause-has
find_number-i-requires-clause-has c =
    let a = c.args in
    rw (number a.s.now a.w a.e a.d c.loop-at.at.offset c.row_of_level-k.ensures c.loop-at.invariant.1)
    (front-has _ _ _ c.requires.count_value.1 c.requires.count_value.0 (table-has a.d c.requires.lent _ c.loop-at-test.true))

-- a row has no more runs than there are windows
pub overflow_add-counts : goal.overflow_add-counts
overflow_add-counts c =
    let a = c.args in
    let below : c.find_number-i.result < length (table a.s.now a.w a.e a.d) = omega arith in
    omega (
      arith,
      c.loop-at.invariant.3.count _ below,
      runs-le (is_row (row_of (level a.s.now a.w a.e) a.d) (get_or (table a.s.now a.w a.e a.d) c.find_number-i.result 0)) c.loop-at.at.offset,
      c.loop-at.invariant.0,
      c.requires.lent.long,
    )

pub next_row-at-requires-clause-level_value : goal.next_row-at-requires-clause-level_value
next_row-at-requires-clause-level_value c =
    let a = c.args in
    (c.loop-at.invariant.1, number a.s.now a.w a.e a.d c.loop-at.at.offset c.row_of_level-k.ensures c.loop-at.invariant.1)

pub loop-at-preserved : goal.loop-at-preserved
loop-at-preserved c =
    let v = c.loop-at.invariant in
    let n = c.next_row-at.ensures in
    let a = c.args in
    let i = c.find_number-i.result in
    let q = c.requires.count_value in
    let below : i < length (table a.s.now a.w a.e a.d) = omega arith in
    let is : get_or (table a.s.now a.w a.e a.d) i 0 ≡ row_of (level a.s.now a.w a.e) a.d c.loop-at.at.offset
    = sym (front_at _ _ _ q.1 q.0 _ c.find_number-i.ensures.0) ∙ c.find_number-i.ensures.1 ∙ number a.s.now a.w a.e a.d c.loop-at.at.offset c.row_of_level-k.ensures v.1 in (
      n.run.below,
      n.sum,
      fresh-next _ _ c.loop-at.at.offset _ n.run,
      counted-run _ _ _ _ n.run v.2 (table-rises _ a.w a.e a.d) i below (omega arith) is v.3,
      length-set c.loop-at.counts i (get_or c.loop-at.counts i 0 + 1) ∙ v.4,
    )
