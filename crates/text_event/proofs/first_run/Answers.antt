-- `first_run`: a bracket, and the run behind it.
use Rattle.meaning_text.specs.Bytes.{bytes}
use Rattle.text_event.proofs.Steps.{first-told}
use Rattle.text_event.proofs.first_run.Goals as goal

pub returns : goal.returns
unfolding bytes
returns c = first-told _ _ _ (c.stands.ensures.0 c.if-not-stands.false) c.in_ok-run_body.ensures
