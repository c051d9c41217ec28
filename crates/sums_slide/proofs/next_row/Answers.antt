-- `next_row` (`next_row`).
use Rattle.meaning_numbers.proofs.Prelude.{◌*◌, ◌≤◌, arith, div-mul-le_self}
use Rattle.sums_slide.specs.Levels.{level, row_of, level-small}
use Rattle.sums_slide.proofs as own
use own.Change.{next_row}
use Rattle.sums_slide.proofs.next_row.Goals as goal

low_small : (c : goal.Start) → c.args.k * c.args.d ≤ 6120000
unfolding row_of
low_small c =
    let a = c.args in
    rw c.requires.level_value.1 (omega (arith, div-mul-le_self (level a.s.now a.w a.e a.from.offset) a.d, level-small a.from.offset c.requires.lent))

pub overflow_mul-low : goal.overflow_mul-low
overflow_mul-low c = omega (arith, low_small c)

pub overflow_add-low : goal.overflow_add-low
overflow_add-low c = omega (arith, low_small c, c.requires.le_d)

pub returns : goal.returns
unfolding row_of
returns c =
    next_row c.args.d (omega arith) c.requires.offset_bound (rw c.requires.level_value.1 at c.next_out.ensures)
