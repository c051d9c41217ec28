-- `count_index`. The head is counted, a row a turn, and the end.
use Rattle.std.proofs.Common.{arith}
use Rattle.rows_records.specs.Records.{zero_row}
use Rattle.entry_write.proofs.Spell.{count-begins, count-turn, count-ends}
use Rattle.entry_write.proofs.count_index.Goals as goal

pub loop-r-init : goal.loop-r-init
loop-r-init c = let a = c.args in count-begins a.head a.rows.now a.left.now a.right.now c.count_head-at.ensures

pub loop-r-preserved : goal.loop-r-preserved
loop-r-preserved c = let a = c.args in count-turn a.head a.rows.now a.left.now a.right.now zero_row (omega arith) c.loop-r.invariant c.count_row-at.ensures

pub returns : goal.returns
returns c = let a = c.args in count-ends a.head a.rows.now a.left.now a.right.now (omega arith) c.loop-r.invariant c.count_end.ensures
