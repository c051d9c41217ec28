-- `refuse_numbers`: each test is a line of the table.
use Rattle.std.specs.Prelude.{Err}
use Rattle.meaning_numbers.proofs.Prelude.{◌≡◌, refl, sym, ◌∙◌, length, pos, [], ◌∷◌, rules}
use Rattle.meaning_entries.specs.Refusal.{query_length_outside, query_below_window, band_outside, threshold_outside, scale_or_shift_outside, count_outside}
use Rattle.refusals.proofs.RefusalLaws.{line, goes-on, stops}
use Rattle.candidate_plan.specs.Tables.{numbers_table}
use Rattle.candidate_plan.proofs.refuse_numbers.Goals as goal

pub returns-in_err-refuse_if : goal.returns-in_err-refuse_if
unfolding numbers_table query_length_outside query_below_window band_outside threshold_outside scale_or_shift_outside count_outside
returns-in_err-refuse_if c =
    let e : c.from_residual.result ≡ Err c.in_err-refuse_if.field-0.0 = search rules in
    e ∙ sym (stops (query_length_outside (length c.args.q.now) (length c.args.s.now) ∷ []) _ refl (line 6 c.query_length_outside.ensures c.refuse_if.ensures) c.in_err-refuse_if.was)

pub returns-in_err-refuse_if-2 : goal.returns-in_err-refuse_if-2
unfolding numbers_table query_length_outside query_below_window band_outside threshold_outside scale_or_shift_outside count_outside
returns-in_err-refuse_if-2 c =
    let e : c.from_residual-in_err-refuse_if-2.result ≡ Err c.in_err-refuse_if-2.field-0.0 = search rules in
    e ∙ sym (stops (query_below_window (length c.args.q.now) (pos c.args.w) ∷ []) _ (goes-on (query_length_outside (length c.args.q.now) (length c.args.s.now) ∷ []) _ refl (line 6 c.query_length_outside.ensures c.refuse_if.ensures) c.in_ok-refuse_if.was) (line 7 c.below_window.ensures c.refuse_if-2.ensures) c.in_err-refuse_if-2.was)

pub returns-in_err-refuse_if-3 : goal.returns-in_err-refuse_if-3
unfolding numbers_table query_length_outside query_below_window band_outside threshold_outside scale_or_shift_outside count_outside
returns-in_err-refuse_if-3 c =
    let e : c.from_residual-in_err-refuse_if-3.result ≡ Err c.in_err-refuse_if-3.field-0.0 = search rules in
    e ∙ sym (stops (band_outside (length c.args.q.now) (pos c.args.ask.limits.band) ∷ []) _ (goes-on (query_below_window (length c.args.q.now) (pos c.args.w) ∷ []) _ (goes-on (query_length_outside (length c.args.q.now) (length c.args.s.now) ∷ []) _ refl (line 6 c.query_length_outside.ensures c.refuse_if.ensures) c.in_ok-refuse_if.was) (line 7 c.below_window.ensures c.refuse_if-2.ensures) c.in_ok-refuse_if-2.was) (line 8 c.band_outside.ensures c.refuse_if-3.ensures) c.in_err-refuse_if-3.was)

pub returns-in_err-refuse_if-4 : goal.returns-in_err-refuse_if-4
unfolding numbers_table query_length_outside query_below_window band_outside threshold_outside scale_or_shift_outside count_outside
returns-in_err-refuse_if-4 c =
    let e : c.from_residual-in_err-refuse_if-4.result ≡ Err c.in_err-refuse_if-4.field-0.0 = search rules in
    e ∙ sym (stops (threshold_outside (pos c.args.ask.limits.threshold) ∷ []) _ (goes-on (band_outside (length c.args.q.now) (pos c.args.ask.limits.band) ∷ []) _ (goes-on (query_below_window (length c.args.q.now) (pos c.args.w) ∷ []) _ (goes-on (query_length_outside (length c.args.q.now) (length c.args.s.now) ∷ []) _ refl (line 6 c.query_length_outside.ensures c.refuse_if.ensures) c.in_ok-refuse_if.was) (line 7 c.below_window.ensures c.refuse_if-2.ensures) c.in_ok-refuse_if-2.was) (line 8 c.band_outside.ensures c.refuse_if-3.ensures) c.in_ok-refuse_if-3.was) (line 9 c.threshold_outside.ensures c.refuse_if-4.ensures) c.in_err-refuse_if-4.was)

pub returns-in_err-refuse_if-5 : goal.returns-in_err-refuse_if-5
unfolding numbers_table query_length_outside query_below_window band_outside threshold_outside scale_or_shift_outside count_outside
returns-in_err-refuse_if-5 c =
    let e : c.from_residual-in_err-refuse_if-5.result ≡ Err c.in_err-refuse_if-5.field-0.0 = search rules in
    e ∙ sym (stops (scale_or_shift_outside (pos c.args.ask.limits.scale) (pos c.args.ask.limits.shift) ∷ []) _ (goes-on (threshold_outside (pos c.args.ask.limits.threshold) ∷ []) _ (goes-on (band_outside (length c.args.q.now) (pos c.args.ask.limits.band) ∷ []) _ (goes-on (query_below_window (length c.args.q.now) (pos c.args.w) ∷ []) _ (goes-on (query_length_outside (length c.args.q.now) (length c.args.s.now) ∷ []) _ refl (line 6 c.query_length_outside.ensures c.refuse_if.ensures) c.in_ok-refuse_if.was) (line 7 c.below_window.ensures c.refuse_if-2.ensures) c.in_ok-refuse_if-2.was) (line 8 c.band_outside.ensures c.refuse_if-3.ensures) c.in_ok-refuse_if-3.was) (line 9 c.threshold_outside.ensures c.refuse_if-4.ensures) c.in_ok-refuse_if-4.was) (line 10 c.scale_or_shift_outside.ensures c.refuse_if-5.ensures) c.in_err-refuse_if-5.was)

pub returns : goal.returns
unfolding numbers_table query_length_outside query_below_window band_outside threshold_outside scale_or_shift_outside count_outside
returns c = line 30 c.pick_outside.ensures c.refuse_if-6.ensures ∙ sym (goes-on (scale_or_shift_outside (pos c.args.ask.limits.scale) (pos c.args.ask.limits.shift) ∷ []) _ (goes-on (threshold_outside (pos c.args.ask.limits.threshold) ∷ []) _ (goes-on (band_outside (length c.args.q.now) (pos c.args.ask.limits.band) ∷ []) _ (goes-on (query_below_window (length c.args.q.now) (pos c.args.w) ∷ []) _ (goes-on (query_length_outside (length c.args.q.now) (length c.args.s.now) ∷ []) _ refl (line 6 c.query_length_outside.ensures c.refuse_if.ensures) c.in_ok-refuse_if.was) (line 7 c.below_window.ensures c.refuse_if-2.ensures) c.in_ok-refuse_if-2.was) (line 8 c.band_outside.ensures c.refuse_if-3.ensures) c.in_ok-refuse_if-3.was) (line 9 c.threshold_outside.ensures c.refuse_if-4.ensures) c.in_ok-refuse_if-4.was) (line 10 c.scale_or_shift_outside.ensures c.refuse_if-5.ensures) c.in_ok-refuse_if-5.was)
