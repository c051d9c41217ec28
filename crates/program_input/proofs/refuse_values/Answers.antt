-- `refuse_values`: the table line by line.
use Rattle.std.specs.Prelude.{Err}
use Rattle.meaning_numbers.proofs.Prelude.{◌≡◌, refl, sym, ap, ◌∙◌, not, [], ◌∷◌, rules}
use Rattle.meaning_curves.specs.Limits.{most_program_values}
use Rattle.meaning_entries.specs.Refusal.{at_place, length_outside}
use Rattle.refusals.proofs.RefusalLaws.{line, goes-on, stops}
use Rattle.program_input.specs.Tables.{first_out, values_table}
use Rattle.program_input.proofs.refuse_values.Goals as goal

pub returns-in_err-refuse_if : goal.returns-in_err-refuse_if
unfolding values_table length_outside
returns-in_err-refuse_if c =
    let e : c.from_residual.result ≡ Err c.in_err-refuse_if.field-0.0 = search rules in
    e ∙ sym (stops (length_outside most_program_values c.args.v.count ∷ []) _ refl (line 1 (ap not c.length_in.ensures) c.refuse_if.ensures) c.in_err-refuse_if.was)

pub returns-in_err-refuse_value : goal.returns-in_err-refuse_value
unfolding values_table length_outside
returns-in_err-refuse_value c =
    let e : c.from_residual-in_err-refuse_value.result ≡ Err c.in_err-refuse_value.field-0.0 = search rules in
    e ∙ sym (stops (at_place 2 (first_out c.args.v) ∷ []) _ (goes-on (length_outside most_program_values c.args.v.count ∷ []) _ refl (line 1 (ap not c.length_in.ensures) c.refuse_if.ensures) c.in_ok-refuse_if.was) (c.refuse_value.ensures) c.in_err-refuse_value.was)

pub returns : goal.returns
unfolding values_table length_outside
returns c = c.refuse_value-2.ensures ∙ sym (goes-on (at_place 2 (first_out c.args.v) ∷ []) _ (goes-on (length_outside most_program_values c.args.v.count ∷ []) _ refl (line 1 (ap not c.length_in.ensures) c.refuse_if.ensures) c.in_ok-refuse_if.was) (c.refuse_value.ensures) c.in_ok-refuse_value.was)
