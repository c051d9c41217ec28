-- `copy_rows`: what is there is copied at once.
use Rattle.std.proofs.Common.{sym, ◌≡◌, arith}
use Rattle.rows_records.proofs.Chunk.{copied-is, copied_none}
use Rattle.rows_records.proofs.copy_rows.Goals as goal

pub returns-then-n-gt0 : goal.returns-then-n-gt0
returns-then-n-gt0 c = rw c.copy_from_slice.ensures.after (sym (copied-is _ _ c.args.n _ c.if-n-gt0.true c.requires.0 c.requires.1))

pub returns-else-n-gt0 : goal.returns-else-n-gt0
returns-else-n-gt0 c = let e : c.args.n ≡ 0 = omega arith in rw e (sym (copied_none _ _ _))
