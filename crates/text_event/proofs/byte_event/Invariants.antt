-- `byte_event`. The invariant: the bytes so far say nothing.
use Rattle.text_index.specs.Step.{GoodState}
use Rattle.text_event.specs.Event.{Quiet}
use Rattle.text_event.proofs.byte_event.Given as goal

abbrev pub invariant-loop-i : goal.invariant-loop-i
invariant-loop-i l = GoodState l.n × Quiet l.text l.initial.n l.at l.n l.i
