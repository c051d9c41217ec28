-- `check_each`. The invariant is `RunsSoFar`, and that the room keeps its length.
use Rattle.meaning_numbers.proofs.Prelude.{◌≡◌, length}
use Rattle.check_list.specs.Found.{asked}
use Rattle.check_list.proofs as own
use own.Turn.{RunsSoFar}
use Rattle.check_list.proofs.check_each.Given as goal

abbrev pub invariant-loop-i : goal.invariant-loop-i
invariant-loop-i l = (length l.room ≡ length l.initial.room) × (length l.row ≡ length l.initial.row) × RunsSoFar l.pick (asked l.pick l.kind l.s l.q l.l) l.left l.right l.runs l.initial.offsets l.initial.distances l.offsets l.distances l.n l.i
