-- `find_row`: a turn of the binary search reads the middle row and halves what is left.
use Rattle.meaning_numbers.proofs.Prelude.{rules, arith, ◌+◌, ◌-◌, ◌/◌, w32, SFits, to_z-of_z}
use Rattle.rows_find.proofs.Search.{up, down}
use Rattle.rows_find.proofs.find_row.Goals as goal

pub loop-lo-preserved-then-row_at-sum : goal.loop-lo-preserved-then-row_at-sum
loop-lo-preserved-then-row_at-sum c =
    let fits : SFits w32 c.row_at.result.up = search rules in
    up c.requires c.loop-lo.invariant (c.loop-lo.lo + (c.loop-lo.hi - c.loop-lo.lo) / 2) (omega arith) (omega arith) c.row_at.ensures (rw (to_z-of_z w32 c.row_at.result.up fits) at c.if-row_at-sum.true)

pub loop-lo-preserved : goal.loop-lo-preserved
loop-lo-preserved c =
    let fits : SFits w32 c.row_at.result.up = search rules in
    down c.requires c.loop-lo.invariant (c.loop-lo.lo + (c.loop-lo.hi - c.loop-lo.lo) / 2) (omega arith) (omega arith) c.row_at.ensures (rw (to_z-of_z w32 c.row_at.result.up fits) at c.if-row_at-sum.false)
