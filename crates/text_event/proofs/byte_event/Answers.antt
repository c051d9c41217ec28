-- `byte_event`. A byte that says nothing leaves the state good.
use Rattle.meaning_numbers.proofs.Prelude.{sym, ◌∙◌}
use Rattle.text_index.proofs.View.{step-good}
use Rattle.text_event.specs.Event.{still, more}
use Rattle.text_event.proofs.byte_event.Goals as goal

pub loop-i-init : goal.loop-i-init
loop-i-init c = (c.requires, still)

pub loop-i-preserved : goal.loop-i-preserved
loop-i-preserved c =
    let e = sym c.index_step.ensures ∙ c.in-To.is in
    (step-good c.loop-i.n _ _ c.loop-i.invariant.0 e, more c.loop-i.invariant.1 c.loop-i-test.true e)
