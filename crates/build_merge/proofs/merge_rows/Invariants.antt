-- `merge_rows`. The invariant: the rows before the next are merged into the group and the records before it (`Kept`).
use Rattle.build_merge.proofs.Turn.{Kept}
use Rattle.build_merge.proofs.merge_rows.Given as goal

abbrev pub invariant-loop-i : goal.invariant-loop-i
invariant-loop-i l = Kept l.initial.rows l.n l.left l.right l.g l.m l.i l.rows
