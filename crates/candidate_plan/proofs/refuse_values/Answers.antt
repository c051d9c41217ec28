-- `refuse_values`: the series, then the query.
use Rattle.std.specs.Prelude.{Err}
use Rattle.meaning_numbers.proofs.Prelude.{◌≡◌, refl, sym, ◌∙◌, rules}
use Rattle.meaning_curves.specs.Limits.{most_values}
use Rattle.meaning_entries.specs.Refusal.{series_lines}
use Rattle.refusals.proofs.RefusalLaws.{goes-on, stops}
use Rattle.candidate_plan.specs.Tables.{values_table}
use Rattle.candidate_plan.proofs.refuse_values.Goals as goal

pub returns-in_err-refuse_series : goal.returns-in_err-refuse_series
unfolding values_table
returns-in_err-refuse_series c =
    let e : c.from_residual.result ≡ Err c.in_err-refuse_series.field-0.0 = search rules in
    e ∙ sym (stops (series_lines most_values c.args.s.now) _ refl (c.refuse_series.ensures) c.in_err-refuse_series.was)

pub returns : goal.returns
unfolding values_table
returns c = c.refuse_value.ensures ∙ sym (goes-on (series_lines most_values c.args.s.now) _ refl (c.refuse_series.ensures) c.in_ok-refuse_series.was)
