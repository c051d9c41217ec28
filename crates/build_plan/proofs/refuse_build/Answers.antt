-- `refuse_build`: each test is a line of the table.
use Rattle.std.specs.Prelude.{Err}
use Rattle.meaning_numbers.proofs.Prelude.{◌≡◌, refl, sym, ◌∙◌, length, [], ◌∷◌, pos, rules}
use Rattle.meaning_curves.specs.Limits.{most_values}
use Rattle.meaning_entries.specs.Refusal.{series_lines, window_outside, width_outside, merge_outside}
use Rattle.refusals.proofs.RefusalLaws.{line, goes-on, stops}
use Rattle.build_plan.proofs.refuse_build.Goals as goal

pub returns-in_err-refuse_series : goal.returns-in_err-refuse_series
unfolding window_outside width_outside merge_outside
returns-in_err-refuse_series c =
    let e : c.from_residual.result ≡ Err c.in_err-refuse_series.field-0.0 = search rules in
    e ∙ sym (stops (series_lines most_values c.args.series.now) _ refl (c.refuse_series.ensures) c.in_err-refuse_series.was)

pub returns-in_err-refuse_if : goal.returns-in_err-refuse_if
unfolding window_outside width_outside merge_outside
returns-in_err-refuse_if c =
    let e : c.from_residual-in_err-refuse_if.result ≡ Err c.in_err-refuse_if.field-0.0 = search rules in
    e ∙ sym (stops (window_outside (pos c.args.w) (length c.args.series.now) ∷ []) _ (goes-on (series_lines most_values c.args.series.now) _ refl (c.refuse_series.ensures) c.in_ok-refuse_series.was) (line 3 c.window_outside.ensures c.refuse_if.ensures) c.in_err-refuse_if.was)

pub returns-in_err-refuse_if-2 : goal.returns-in_err-refuse_if-2
unfolding window_outside width_outside merge_outside
returns-in_err-refuse_if-2 c =
    let e : c.from_residual-in_err-refuse_if-2.result ≡ Err c.in_err-refuse_if-2.field-0.0 = search rules in
    e ∙ sym (stops (width_outside (pos c.args.d) ∷ []) _ (goes-on (window_outside (pos c.args.w) (length c.args.series.now) ∷ []) _ (goes-on (series_lines most_values c.args.series.now) _ refl (c.refuse_series.ensures) c.in_ok-refuse_series.was) (line 3 c.window_outside.ensures c.refuse_if.ensures) c.in_ok-refuse_if.was) (line 4 c.width_outside.ensures c.refuse_if-2.ensures) c.in_err-refuse_if-2.was)

pub returns-in_err-refuse_if-3 : goal.returns-in_err-refuse_if-3
unfolding window_outside width_outside merge_outside
returns-in_err-refuse_if-3 c =
    let e : c.from_residual-in_err-refuse_if-3.result ≡ Err c.in_err-refuse_if-3.field-0.0 = search rules in
    e ∙ sym (stops (merge_outside (pos c.args.g) ∷ []) _ (goes-on (width_outside (pos c.args.d) ∷ []) _ (goes-on (window_outside (pos c.args.w) (length c.args.series.now) ∷ []) _ (goes-on (series_lines most_values c.args.series.now) _ refl (c.refuse_series.ensures) c.in_ok-refuse_series.was) (line 3 c.window_outside.ensures c.refuse_if.ensures) c.in_ok-refuse_if.was) (line 4 c.width_outside.ensures c.refuse_if-2.ensures) c.in_ok-refuse_if-2.was) (line 5 c.merge_outside.ensures c.refuse_if-3.ensures) c.in_err-refuse_if-3.was)

pub returns : goal.returns
unfolding window_outside width_outside merge_outside
returns c = c.refuse_room.ensures ∙ sym (goes-on (merge_outside (pos c.args.g) ∷ []) _ (goes-on (width_outside (pos c.args.d) ∷ []) _ (goes-on (window_outside (pos c.args.w) (length c.args.series.now) ∷ []) _ (goes-on (series_lines most_values c.args.series.now) _ refl (c.refuse_series.ensures) c.in_ok-refuse_series.was) (line 3 c.window_outside.ensures c.refuse_if.ensures) c.in_ok-refuse_if.was) (line 4 c.width_outside.ensures c.refuse_if-2.ensures) c.in_ok-refuse_if-2.was) (line 5 c.merge_outside.ensures c.refuse_if-3.ensures) c.in_ok-refuse_if-3.was)
