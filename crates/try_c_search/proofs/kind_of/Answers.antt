-- `kind_of`, by the test.
use borrow.Author.Tests.{eq-eqb, ne_eqb}
use Rattle.try_c_search.specs.Told.{kind_of}
use Rattle.try_c_search.proofs.kind_of.Goals as goal

pub returns-then-asked-eq0 : goal.returns-then-asked-eq0
unfolding kind_of
returns-then-asked-eq0 c = rw (eq-eqb c.args.asked.kind 0 c.if-asked-eq0.true, kind_of)

pub returns : goal.returns
unfolding kind_of
returns c = rw (ne_eqb c.args.asked.kind 0 c.if-asked-eq0.false, kind_of)
