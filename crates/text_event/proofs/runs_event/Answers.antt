-- `runs_event`: a run, a row's end, or what comes byte by byte.
use Rattle.meaning_numbers.proofs.Prelude.{arith}
use Rattle.text_event.proofs as own
use own.EventLaws.{closed-up}
use own.Steps.{ends-told}
use Rattle.text_event.proofs.runs_event.Goals as goal

pub overflow_add-result-then-ends : goal.overflow_add-result-then-ends
overflow_add-result-then-ends c = omega (arith, (closed-up (ends-told _ _ (c.ends.ensures c.if-ends.true))).1, c.well_formed)

pub returns-then-ends : goal.returns-then-ends
returns-then-ends c = ends-told _ _ (c.ends.ensures c.if-ends.true)
