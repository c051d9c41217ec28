-- `pick_of`, by the test.
use borrow.Author.Tests.{eq-eqb, ne_eqb}
use Rattle.try_c_search.specs.Told.{pick_of}
use Rattle.try_c_search.proofs.pick_of.Goals as goal

pub returns-then-asked-eq0 : goal.returns-then-asked-eq0
unfolding pick_of
returns-then-asked-eq0 c = rw (eq-eqb c.args.asked.pick 0 c.if-asked-eq0.true, pick_of)

pub returns : goal.returns
unfolding pick_of
returns c = rw (ne_eqb c.args.asked.pick 0 c.if-asked-eq0.false, pick_of)
