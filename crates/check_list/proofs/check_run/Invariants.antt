-- `check_run`. The invariant is `RunSoFar`, and that the room keeps its length.
use Rattle.meaning_numbers.proofs.Prelude.{◌≡◌, length}
use Rattle.check_list.proofs as own
use own.Turn.{RunSoFar}
use Rattle.check_list.proofs.check_run.Given as goal

abbrev pub invariant-loop-j : goal.invariant-loop-j
invariant-loop-j l = (length l.room ≡ length l.initial.room) × (length l.row ≡ length l.initial.row) × RunSoFar l.pick l.kind l.s l.q l.l l.from l.last l.k l.initial.offsets l.initial.distances l.offsets l.distances l.t.values l.t.squares l.n l.j
