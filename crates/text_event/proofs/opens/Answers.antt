-- `opens`: room, and the word.
use Rattle.meaning_text.specs.Bytes.{bytes}
use Rattle.text_event.proofs.opens.Goals as goal

pub returns-then-roomy : goal.returns-then-roomy
unfolding bytes
returns-then-roomy c = λ e. record { word = c.stands.ensures.0 e; room = c.roomy.ensures c.if-roomy.true }
