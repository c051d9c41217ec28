-- `pack_rows`: a record is made and written a turn.
use Rattle.std.proofs.Common.{sym}
use Rattle.rows_pack.proofs.Packed.{packed_none, packed_more}
use Rattle.rows_pack.proofs.pack_rows.Goals as goal

pub loop-i-init : goal.loop-i-init
loop-i-init c = sym (packed_none _ _ _ _ _)

pub loop-i-preserved : goal.loop-i-preserved
loop-i-preserved c = rw (c.loop-i.invariant, c.row_from.ensures) (sym (packed_more _ _ _ _ _ _))
