-- `write_index`. The head is written, a row a turn, and the end, and what is behind it cleared.
use Rattle.std.proofs.Common.{arith}
use Rattle.meaning_rows.specs.Index.{lent}
use Rattle.meaning_text.specs.Texts.{index_text}
use Rattle.rows_records.specs.Records.{zero_row}
use Rattle.entry_write.proofs.Spell.{put-begins, put_turn, put-ends, put-spelled}
use Rattle.entry_write.proofs.write_index.Goals as goal

pub loop-r-init : goal.loop-r-init
loop-r-init c = let a = c.args in put-begins a.head a.rows.now a.left.now a.right.now c.write_head-at.ensures

pub loop-r-preserved : goal.loop-r-preserved
loop-r-preserved c = let a = c.args in put_turn a.head a.rows.now a.left.now a.right.now zero_row (omega arith) c.loop-r.invariant c.write_row-at.ensures

pub returns : goal.returns
returns c =
    let a = c.args in
    put-spelled (index_text (lent a.head a.rows.now a.left.now a.right.now)) (put-ends a.head a.rows.now a.left.now a.right.now (omega arith) c.loop-r.invariant c.write_end-to.ensures) c.clear.ensures
