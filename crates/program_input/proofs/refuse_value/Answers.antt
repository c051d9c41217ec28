-- `refuse_value`, by its test.
use Rattle.std.specs.Prelude.{Err}
use Rattle.meaning_numbers.proofs.Prelude.{ap, sym, ◌∙◌, [], lt-ltb, le-ltb, refl}
use Rattle.meaning_entries.specs.Refusal.{at_place}
use Rattle.refusals.proofs.RefusalLaws.{none_is, place_is, place_none}
use Rattle.program_input.specs.Tables.{first_out}
use Rattle.program_input.proofs.refuse_value.Goals as goal

pub returns-then-v : goal.returns-then-v
returns-then-v c = ap (λ r. Err r) c.at.ensures ∙ sym (place_is (at_place 2 (first_out c.args.v)) [] (rw (lt-ltb _ _ c.if-v.true) refl))

pub returns : goal.returns
returns c = none_is ∙ sym (place_none (at_place 2 (first_out c.args.v)) [] (rw (le-ltb _ _ c.if-v.false) refl))
