-- `find_matches` (`answers`).
use Rattle.check_answer.proofs.AnswerLaws.{answers}
use Rattle.check_answer.proofs.find_matches.Goals as goal

pub returns : goal.returns
returns c = let p = c.check_prepared-found in answers p.ensures (rw (p.auto.offsets, p.auto.distances) at c.answer.ensures)
