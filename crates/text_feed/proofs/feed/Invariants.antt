-- `feed`. The invariant: what is kept after i bytes holds what the automaton has been told (`Sofar`).
use Rattle.text_feed.proofs.FeedLaws.{Sofar}
use Rattle.text_feed.proofs.feed.Given as goal

abbrev pub invariant-loop-i : goal.invariant-loop-i
invariant-loop-i l = Sofar l.piece l.initial.numbers l.initial.series l.initial.query l.initial.s l.initial.v l.initial.q l.p.at l.numbers l.series l.query l.s l.v l.q l.i
