-- `make_plan`: each test is a line of the table.
use Rattle.std.specs.Prelude.{Err}
use Rattle.std.proofs.Common.{◌≡◌, refl, sym, ◌∙◌, length, [], ◌∷◌, rules}
use Rattle.meaning_curves.specs.Limits.{most_values}
use Rattle.meaning_rows.specs.Index.{lent}
use Rattle.meaning_entries.specs.Refusal.{more_windows, series_lines}
use Rattle.refusals.specs.Refusal.{judged_line}
use Rattle.refusals.proofs.RefusalLaws.{line, goes-on, stops}
use Rattle.extend_plan.specs.Plan.{plan_of}
use Rattle.extend_plan.proofs.make_plan.Goals as goal

pub returns-in_err-refuse_series : goal.returns-in_err-refuse_series
unfolding plan_of more_windows
returns-in_err-refuse_series c =
    let e : c.from_residual.result ≡ Err c.in_err-refuse_series.field-0.0 = search rules in
    e ∙ sym (stops (series_lines most_values c.args.series.now) _ refl (c.refuse_series.ensures) c.in_err-refuse_series.was)

pub returns-in_err-refuse_judged : goal.returns-in_err-refuse_judged
unfolding plan_of more_windows
returns-in_err-refuse_judged c =
    let e : c.from_residual-in_err-refuse_judged.result ≡ Err c.in_err-refuse_judged.field-0.0 = search rules in
    e ∙ sym (stops (judged_line c.args.judged ∷ []) _ (goes-on (series_lines most_values c.args.series.now) _ refl (c.refuse_series.ensures) c.in_ok-refuse_series.was) (c.refuse_judged.ensures) c.in_err-refuse_judged.was)

pub returns-in_err-refuse_if : goal.returns-in_err-refuse_if
unfolding plan_of more_windows
returns-in_err-refuse_if c =
    let e : c.from_residual-in_err-refuse_if.result ≡ Err c.in_err-refuse_if.field-0.0 = search rules in
    e ∙ sym (stops (more_windows (lent c.args.head [] [] []) (length c.args.series.now) ∷ []) _ (goes-on (judged_line c.args.judged ∷ []) _ (goes-on (series_lines most_values c.args.series.now) _ refl (c.refuse_series.ensures) c.in_ok-refuse_series.was) (c.refuse_judged.ensures) c.in_ok-refuse_judged.was) (line 22 c.more.ensures c.refuse_if.ensures) c.in_err-refuse_if.was)

pub returns : goal.returns
unfolding plan_of more_windows
returns c = c.refuse_room.ensures ∙ sym (goes-on (more_windows (lent c.args.head [] [] []) (length c.args.series.now) ∷ []) _ (goes-on (judged_line c.args.judged ∷ []) _ (goes-on (series_lines most_values c.args.series.now) _ refl (c.refuse_series.ensures) c.in_ok-refuse_series.was) (c.refuse_judged.ensures) c.in_ok-refuse_judged.was) (line 22 c.more.ensures c.refuse_if.ensures) c.in_ok-refuse_if.was)
