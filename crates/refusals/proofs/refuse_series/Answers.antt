-- `refuse_series`: the length is the first line, the values are the other.
use Rattle.meaning_numbers.proofs.Prelude.{◌≡◌, refl, sym, ap, ◌∙◌, not, length, [], ◌∷◌, rules}
use Rattle.std.specs.Prelude.{Err}
use Rattle.meaning_curves.specs.Limits.{most_values}
use Rattle.meaning_entries.specs.Refusal.{length_outside}
use Rattle.refusals.proofs as own
use own.RefusalLaws.{line, goes-on, stops}
use Rattle.refusals.proofs.refuse_series.Goals as goal

pub returns-in_err-refuse_if : goal.returns-in_err-refuse_if
unfolding length_outside
returns-in_err-refuse_if c =
    let e : c.from_residual.result ≡ Err c.in_err-refuse_if.field-0.0 = search rules in
    e ∙ sym (stops (length_outside most_values (length c.args.s.now) ∷ []) _ refl (line 1 (ap not c.length_in.ensures) c.refuse_if.ensures) c.in_err-refuse_if.was)

pub returns : goal.returns
unfolding length_outside
returns c = c.refuse_value.ensures ∙ sym (goes-on (length_outside most_values (length c.args.s.now) ∷ []) _ refl (line 1 (ap not c.length_in.ensures) c.refuse_if.ensures) c.in_ok-refuse_if.was)
