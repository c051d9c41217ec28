-- `write_matches`. The invariant: the first i matches stand in the buffer (`Matches`).
use Rattle.text_list.proofs.Found.{Matches}
use Rattle.text_list.proofs.write_matches.Given as goal

abbrev pub invariant-loop-i : goal.invariant-loop-i
invariant-loop-i l = Matches l.initial.buf l.initial.to l.count l.offsets l.distances l.n l.buf l.to l.i
