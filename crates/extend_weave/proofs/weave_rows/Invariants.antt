-- `weave_rows`: a old rows and b numbers are passed, and k records are made (`Weaving`). A turn passes an old row or a number, so fewer are left.
use Rattle.std.proofs.Common.{◌+◌, ◌-◌, length}
use Rattle.extend_weave.proofs.Weave.{Weaving}
use Rattle.extend_weave.proofs.weave_rows.Given as goal

abbrev pub invariant-loop-a : goal.invariant-loop-a
invariant-loop-a l = Weaving l.old l.numbers l.count l.d l.base l.initial.rows l.a l.b l.k l.rows

abbrev pub decreases-loop-a : goal.decreases-loop-a
decreases-loop-a l = length l.old + l.count - (l.a + l.b)
