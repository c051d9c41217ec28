-- `refuse_value`, by the first value outside.
use Rattle.meaning_numbers.proofs.Prelude.{sym, ap, ◌∙◌, []}
use Rattle.std.specs.Prelude.{Err}
use Rattle.meaning_entries.specs.Refusal.{value_outside}
use Rattle.refusals.proofs as own
use own.RefusalLaws.{none_is, place_is, place_none}
use Rattle.refusals.proofs.refuse_value.Goals as goal

pub returns-in-Some : goal.returns-in-Some
unfolding value_outside
returns-in-Some c = ap (λ r. Err r) c.at.ensures ∙ sym (place_is (value_outside c.args.s.now) [] (sym c.first_outside.ensures ∙ c.in-Some.is))

pub returns-in-None : goal.returns-in-None
unfolding value_outside
returns-in-None c = none_is ∙ sym (place_none (value_outside c.args.s.now) [] (sym c.first_outside.ensures ∙ c.in-None.is))
