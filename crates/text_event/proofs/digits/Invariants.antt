-- `digits`. The invariant: the digits so far say nothing, and their number is below the bound for so many (`top`).
use Rattle.meaning_numbers.proofs.Prelude.{◌+◌, ◌<◌}
use Rattle.text_numbers.specs.declared.Numeral.{Numeral}
use Rattle.text_index.specs.{declared.Field.Field, declared.State.State}
use Rattle.text_event.specs.Event.{Quiet}
use Rattle.text_event.proofs.Steps.{top}
use Rattle.text_event.proofs.digits.Given as goal

abbrev pub invariant-loop-k : goal.invariant-loop-k
invariant-loop-k l = (l.m < top l.k) × ((p : Field) → Quiet l.text (State.At p (Numeral.Plus l.first)) l.at (State.At p (Numeral.Plus l.m)) (l.at + l.k)) × ((p : Field) → Quiet l.text (State.At p (Numeral.Less l.first)) l.at (State.At p (Numeral.Less l.m)) (l.at + l.k))
