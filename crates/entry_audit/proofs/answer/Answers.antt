-- `answer`, by what is filed wrongly.
use Rattle.meaning_numbers.proofs.Prelude.{sym, ap, ◌∙◌}
use Rattle.entry_audit.specs.Plan.{answer_of}
use Rattle.entry_audit.proofs as own
use own.Cases.{none-lacking, some-lacking}
use Rattle.entry_audit.proofs.answer.Goals as goal

pub returns-in-Some : goal.returns-in-Some
unfolding answer_of
returns-in-Some c = sym (ap (answer_of c.args.lacking) c.in-Some.is)

pub returns-then-lacking-eq0 : goal.returns-then-lacking-eq0
unfolding answer_of
returns-then-lacking-eq0 c = none-lacking _ c.if-lacking-eq0.true ∙ sym (ap (answer_of c.args.lacking) c.in-None.is)

pub returns-else-lacking-eq0 : goal.returns-else-lacking-eq0
unfolding answer_of
returns-else-lacking-eq0 c = some-lacking _ c.if-lacking-eq0.false ∙ sym (ap (answer_of c.args.lacking) c.in-None.is)
