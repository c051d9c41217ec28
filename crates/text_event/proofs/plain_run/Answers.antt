-- `plain_run`: a blank and a bracket, and the run behind them.
use Rattle.meaning_text.specs.Bytes.{bytes}
use Rattle.text_event.proofs.Steps.{plain-told}
use Rattle.text_event.proofs.plain_run.Goals as goal

pub returns : goal.returns
unfolding bytes
returns c = plain-told _ _ _ (c.stands.ensures.0 c.if-not-stands.false) c.in_ok-run_body.ensures
