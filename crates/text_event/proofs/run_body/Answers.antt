-- `run_body`: two numbers, and the bytes behind them.
use Rattle.meaning_text.specs.Bytes.{bytes}
use Rattle.text_event.proofs.Steps.{body-told}
use Rattle.text_event.proofs.run_body.Goals as goal

pub returns : goal.returns
unfolding bytes
returns c = body-told _ _ _ _ c.in_ok-a.ensures (c.stands.ensures.0 c.if-not-stands.false) c.in_ok-b.ensures (c.stands-2.ensures.0 c.if-not-stands-2.false)
