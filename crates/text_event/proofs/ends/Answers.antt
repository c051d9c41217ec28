-- `ends`: room, and the word.
use Rattle.meaning_text.specs.Bytes.{bytes}
use Rattle.text_event.proofs.ends.Goals as goal

pub returns-then-roomy : goal.returns-then-roomy
unfolding bytes
returns-then-roomy c = c.stands.ensures.0
