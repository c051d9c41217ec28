-- `number_and_blank`: a number, and a blank.
use Rattle.meaning_text.specs.Bytes.{bytes}
use Rattle.text_event.proofs.number_and_blank.Goals as goal

pub returns : goal.returns
unfolding bytes
returns c = record { number = c.in_ok-q.ensures; blank = c.stands.ensures.0 c.if-not-stands.false }
