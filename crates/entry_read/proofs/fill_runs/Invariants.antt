-- `fill_runs`. The invariant: the columns after i bytes are a view of what has been said (`Filling`). The measure is what is left of the text.
use Prim.Native.Nat.{◌-◌}
use lib.ListN.{length}
use Rattle.entry_read.proofs.Columns.{Filling}
use Rattle.entry_read.proofs.fill_runs.Given as goal

abbrev pub invariant-loop-a : goal.invariant-loop-a
invariant-loop-a l = Filling l.text l.initial.left l.initial.right l.left l.right l.s l.l l.k l.i

abbrev pub decreases-loop-a : goal.decreases-loop-a
decreases-loop-a l = length l.text - l.i
