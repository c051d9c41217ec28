-- `refuse`, by where the input stands.
use Rattle.std.specs.Prelude.{Err}
use Rattle.meaning_numbers.proofs.Prelude.{ap, sym, ◌∙◌}
use Rattle.program_input.proofs as own
use own.Text.{end-failed, end_short, end-done}
use Rattle.program_input.proofs.refuse.Goals as goal

pub returns-then-not-is_done : goal.returns-then-not-is_done
returns-then-not-is_done c = ap (λ r. Err r) c.at-then-not-is_done.ensures ∙ end_short c.args.numbers.now c.args.query.now c.in-Going.is (sym c.is_done.ensures ∙ c.if-not-is_done.true)

pub returns-in-Failed : goal.returns-in-Failed
returns-in-Failed c = ap (λ r. Err r) c.at.ensures ∙ end-failed c.args.numbers.now c.args.query.now c.in-Failed.is

pub returns-else-not-is_done : goal.returns-else-not-is_done
returns-else-not-is_done c = end-done _ _ c.in-Going.is (sym c.is_done.ensures ∙ c.if-not-is_done.false) (rw c.numbers_of.ensures at c.refuse_call.ensures)
