-- `meet_parts`: a turn reads an entry's range, finds the stretch of runs that it meets, and stores the stretch in the entry's place (`Meeting`).
use Rattle.candidate_spans.proofs.MetLaws.{Meeting}
use Rattle.candidate_spans.proofs.meet_parts.Given as goal

abbrev pub invariant-loop-i : goal.invariant-loop-i
invariant-loop-i l = Meeting l.rows l.parts l.initial.first l.initial.last l.i l.first l.last
