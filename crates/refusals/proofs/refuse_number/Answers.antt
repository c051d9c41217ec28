-- `refuse_number`, by its test.
use Rattle.refusals.proofs as own
use own.RefusalLaws.{test-is, test-none}
use Rattle.refusals.proofs.refuse_number.Goals as goal

pub returns-then-t : goal.returns-then-t
returns-then-t c = test-is _ c.args.t c.if-t.true

pub returns : goal.returns
returns c = test-none _ c.args.t c.if-t.false
