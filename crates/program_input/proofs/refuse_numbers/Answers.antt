-- `refuse_numbers`: the table line by line. A number of the text is read as what it is (`by-itself`).
use Rattle.std.specs.Prelude.{Err}
use Rattle.meaning_curves.specs.Limits.{band_in}
use Rattle.meaning_numbers.specs.Order.{within}
use Rattle.meaning_numbers.proofs.Prelude.{◌≡◌, refl, sym, ap, ◌∙◌, not, ◌||◌, [], ◌∷◌, ℤ, pos, lt_z, SFits, w64, of_z, to_z, to_z-of_z, rules}
use Rattle.meaning_entries.specs.Refusal.{window_outside, width_outside, merge_outside, query_length_outside, query_below_window, band_outside, threshold_outside, scale_or_shift_outside}
use Rattle.refusals.proofs.RefusalLaws.{line, goes-on, stops}
use Rattle.program_input.specs.Tables.{numbers_table}
use Rattle.program_input.proofs.refuse_numbers.Goals as goal

-- what a test of a number says, of the number itself
by-itself : {A : Type 0} {r : A} (f : ℤ → A) (z : ℤ) → SFits w64 z → r ≡ f (to_z w64 (of_z w64 z)) → r ≡ f z
by-itself f z h e = e ∙ ap f (to_z-of_z w64 z h)

pub returns-in_err-refuse_if : goal.returns-in_err-refuse_if
unfolding numbers_table window_outside width_outside merge_outside query_length_outside query_below_window band_outside threshold_outside scale_or_shift_outside
returns-in_err-refuse_if c =
    let e : c.from_residual.result ≡ Err c.in_err-refuse_if.field-0.0 = search rules in
    e ∙ sym (stops (window_outside c.args.x.window c.args.n ∷ []) _ refl (line 3 (λ i. (by-itself (λ z. not (within (pos 1) (pos 256) z)) c.args.x.window (search rules) c.outside.ensures) i || (by-itself (λ z. lt_z (pos c.args.n) z) c.args.x.window (search rules) c.above.ensures) i) c.refuse_if.ensures) c.in_err-refuse_if.was)

pub returns-in_err-refuse_if-2 : goal.returns-in_err-refuse_if-2
unfolding numbers_table window_outside width_outside merge_outside query_length_outside query_below_window band_outside threshold_outside scale_or_shift_outside
returns-in_err-refuse_if-2 c =
    let e : c.from_residual-in_err-refuse_if-2.result ≡ Err c.in_err-refuse_if-2.field-0.0 = search rules in
    e ∙ sym (stops (width_outside c.args.x.width ∷ []) _ (goes-on (window_outside c.args.x.window c.args.n ∷ []) _ refl (line 3 (λ i. (by-itself (λ z. not (within (pos 1) (pos 256) z)) c.args.x.window (search rules) c.outside.ensures) i || (by-itself (λ z. lt_z (pos c.args.n) z) c.args.x.window (search rules) c.above.ensures) i) c.refuse_if.ensures) c.in_ok-refuse_if.was) (line 4 (by-itself (λ z. not (within (pos 1) (pos 1000000) z)) c.args.x.width (search rules) c.outside-2.ensures) c.refuse_if-2.ensures) c.in_err-refuse_if-2.was)

pub returns-in_err-refuse_if-3 : goal.returns-in_err-refuse_if-3
unfolding numbers_table window_outside width_outside merge_outside query_length_outside query_below_window band_outside threshold_outside scale_or_shift_outside
returns-in_err-refuse_if-3 c =
    let e : c.from_residual-in_err-refuse_if-3.result ≡ Err c.in_err-refuse_if-3.field-0.0 = search rules in
    e ∙ sym (stops (merge_outside c.args.x.merge ∷ []) _ (goes-on (width_outside c.args.x.width ∷ []) _ (goes-on (window_outside c.args.x.window c.args.n ∷ []) _ refl (line 3 (λ i. (by-itself (λ z. not (within (pos 1) (pos 256) z)) c.args.x.window (search rules) c.outside.ensures) i || (by-itself (λ z. lt_z (pos c.args.n) z) c.args.x.window (search rules) c.above.ensures) i) c.refuse_if.ensures) c.in_ok-refuse_if.was) (line 4 (by-itself (λ z. not (within (pos 1) (pos 1000000) z)) c.args.x.width (search rules) c.outside-2.ensures) c.refuse_if-2.ensures) c.in_ok-refuse_if-2.was) (line 5 (by-itself (λ z. not (within (pos 0) (pos 100) z)) c.args.x.merge (search rules) c.outside-3.ensures) c.refuse_if-3.ensures) c.in_err-refuse_if-3.was)

pub returns-in_err-refuse_if-4 : goal.returns-in_err-refuse_if-4
unfolding numbers_table window_outside width_outside merge_outside query_length_outside query_below_window band_outside threshold_outside scale_or_shift_outside
returns-in_err-refuse_if-4 c =
    let e : c.from_residual-in_err-refuse_if-4.result ≡ Err c.in_err-refuse_if-4.field-0.0 = search rules in
    e ∙ sym (stops (query_length_outside c.args.m c.args.n ∷ []) _ (goes-on (merge_outside c.args.x.merge ∷ []) _ (goes-on (width_outside c.args.x.width ∷ []) _ (goes-on (window_outside c.args.x.window c.args.n ∷ []) _ refl (line 3 (λ i. (by-itself (λ z. not (within (pos 1) (pos 256) z)) c.args.x.window (search rules) c.outside.ensures) i || (by-itself (λ z. lt_z (pos c.args.n) z) c.args.x.window (search rules) c.above.ensures) i) c.refuse_if.ensures) c.in_ok-refuse_if.was) (line 4 (by-itself (λ z. not (within (pos 1) (pos 1000000) z)) c.args.x.width (search rules) c.outside-2.ensures) c.refuse_if-2.ensures) c.in_ok-refuse_if-2.was) (line 5 (by-itself (λ z. not (within (pos 0) (pos 100) z)) c.args.x.merge (search rules) c.outside-3.ensures) c.refuse_if-3.ensures) c.in_ok-refuse_if-3.was) (line 6 c.query_length_outside.ensures c.refuse_if-4.ensures) c.in_err-refuse_if-4.was)

pub returns-in_err-refuse_if-5 : goal.returns-in_err-refuse_if-5
unfolding numbers_table window_outside width_outside merge_outside query_length_outside query_below_window band_outside threshold_outside scale_or_shift_outside
returns-in_err-refuse_if-5 c =
    let e : c.from_residual-in_err-refuse_if-5.result ≡ Err c.in_err-refuse_if-5.field-0.0 = search rules in
    e ∙ sym (stops (query_below_window c.args.m c.args.x.window ∷ []) _ (goes-on (query_length_outside c.args.m c.args.n ∷ []) _ (goes-on (merge_outside c.args.x.merge ∷ []) _ (goes-on (width_outside c.args.x.width ∷ []) _ (goes-on (window_outside c.args.x.window c.args.n ∷ []) _ refl (line 3 (λ i. (by-itself (λ z. not (within (pos 1) (pos 256) z)) c.args.x.window (search rules) c.outside.ensures) i || (by-itself (λ z. lt_z (pos c.args.n) z) c.args.x.window (search rules) c.above.ensures) i) c.refuse_if.ensures) c.in_ok-refuse_if.was) (line 4 (by-itself (λ z. not (within (pos 1) (pos 1000000) z)) c.args.x.width (search rules) c.outside-2.ensures) c.refuse_if-2.ensures) c.in_ok-refuse_if-2.was) (line 5 (by-itself (λ z. not (within (pos 0) (pos 100) z)) c.args.x.merge (search rules) c.outside-3.ensures) c.refuse_if-3.ensures) c.in_ok-refuse_if-3.was) (line 6 c.query_length_outside.ensures c.refuse_if-4.ensures) c.in_ok-refuse_if-4.was) (line 7 (by-itself (λ z. lt_z (pos c.args.m) z) c.args.x.window (search rules) c.above-2.ensures) c.refuse_if-5.ensures) c.in_err-refuse_if-5.was)

pub returns-in_err-refuse_if-6 : goal.returns-in_err-refuse_if-6
unfolding numbers_table window_outside width_outside merge_outside query_length_outside query_below_window band_outside threshold_outside scale_or_shift_outside
returns-in_err-refuse_if-6 c =
    let e : c.from_residual-in_err-refuse_if-6.result ≡ Err c.in_err-refuse_if-6.field-0.0 = search rules in
    e ∙ sym (stops (band_outside c.args.m c.args.x.band ∷ []) _ (goes-on (query_below_window c.args.m c.args.x.window ∷ []) _ (goes-on (query_length_outside c.args.m c.args.n ∷ []) _ (goes-on (merge_outside c.args.x.merge ∷ []) _ (goes-on (width_outside c.args.x.width ∷ []) _ (goes-on (window_outside c.args.x.window c.args.n ∷ []) _ refl (line 3 (λ i. (by-itself (λ z. not (within (pos 1) (pos 256) z)) c.args.x.window (search rules) c.outside.ensures) i || (by-itself (λ z. lt_z (pos c.args.n) z) c.args.x.window (search rules) c.above.ensures) i) c.refuse_if.ensures) c.in_ok-refuse_if.was) (line 4 (by-itself (λ z. not (within (pos 1) (pos 1000000) z)) c.args.x.width (search rules) c.outside-2.ensures) c.refuse_if-2.ensures) c.in_ok-refuse_if-2.was) (line 5 (by-itself (λ z. not (within (pos 0) (pos 100) z)) c.args.x.merge (search rules) c.outside-3.ensures) c.refuse_if-3.ensures) c.in_ok-refuse_if-3.was) (line 6 c.query_length_outside.ensures c.refuse_if-4.ensures) c.in_ok-refuse_if-4.was) (line 7 (by-itself (λ z. lt_z (pos c.args.m) z) c.args.x.window (search rules) c.above-2.ensures) c.refuse_if-5.ensures) c.in_ok-refuse_if-5.was) (line 8 (by-itself (λ z. not (band_in c.args.m z)) c.args.x.band (search rules) c.band_outside.ensures) c.refuse_if-6.ensures) c.in_err-refuse_if-6.was)

pub returns-in_err-refuse_if-7 : goal.returns-in_err-refuse_if-7
unfolding numbers_table window_outside width_outside merge_outside query_length_outside query_below_window band_outside threshold_outside scale_or_shift_outside
returns-in_err-refuse_if-7 c =
    let e : c.from_residual-in_err-refuse_if-7.result ≡ Err c.in_err-refuse_if-7.field-0.0 = search rules in
    e ∙ sym (stops (threshold_outside c.args.x.threshold ∷ []) _ (goes-on (band_outside c.args.m c.args.x.band ∷ []) _ (goes-on (query_below_window c.args.m c.args.x.window ∷ []) _ (goes-on (query_length_outside c.args.m c.args.n ∷ []) _ (goes-on (merge_outside c.args.x.merge ∷ []) _ (goes-on (width_outside c.args.x.width ∷ []) _ (goes-on (window_outside c.args.x.window c.args.n ∷ []) _ refl (line 3 (λ i. (by-itself (λ z. not (within (pos 1) (pos 256) z)) c.args.x.window (search rules) c.outside.ensures) i || (by-itself (λ z. lt_z (pos c.args.n) z) c.args.x.window (search rules) c.above.ensures) i) c.refuse_if.ensures) c.in_ok-refuse_if.was) (line 4 (by-itself (λ z. not (within (pos 1) (pos 1000000) z)) c.args.x.width (search rules) c.outside-2.ensures) c.refuse_if-2.ensures) c.in_ok-refuse_if-2.was) (line 5 (by-itself (λ z. not (within (pos 0) (pos 100) z)) c.args.x.merge (search rules) c.outside-3.ensures) c.refuse_if-3.ensures) c.in_ok-refuse_if-3.was) (line 6 c.query_length_outside.ensures c.refuse_if-4.ensures) c.in_ok-refuse_if-4.was) (line 7 (by-itself (λ z. lt_z (pos c.args.m) z) c.args.x.window (search rules) c.above-2.ensures) c.refuse_if-5.ensures) c.in_ok-refuse_if-5.was) (line 8 (by-itself (λ z. not (band_in c.args.m z)) c.args.x.band (search rules) c.band_outside.ensures) c.refuse_if-6.ensures) c.in_ok-refuse_if-6.was) (line 9 (by-itself (λ z. not (within (pos 0) (pos 1000000000000) z)) c.args.x.threshold (search rules) c.outside-4.ensures) c.refuse_if-7.ensures) c.in_err-refuse_if-7.was)

pub returns : goal.returns
unfolding numbers_table window_outside width_outside merge_outside query_length_outside query_below_window band_outside threshold_outside scale_or_shift_outside
returns c = line 10 (λ i. (by-itself (λ z. not (within (pos 10) (pos 100) z)) c.args.x.scale (search rules) c.outside-5.ensures) i || (by-itself (λ z. not (within (pos 0) (pos 20000) z)) c.args.x.shift (search rules) c.outside-6.ensures) i) c.refuse_if-8.ensures ∙ sym (goes-on (threshold_outside c.args.x.threshold ∷ []) _ (goes-on (band_outside c.args.m c.args.x.band ∷ []) _ (goes-on (query_below_window c.args.m c.args.x.window ∷ []) _ (goes-on (query_length_outside c.args.m c.args.n ∷ []) _ (goes-on (merge_outside c.args.x.merge ∷ []) _ (goes-on (width_outside c.args.x.width ∷ []) _ (goes-on (window_outside c.args.x.window c.args.n ∷ []) _ refl (line 3 (λ i. (by-itself (λ z. not (within (pos 1) (pos 256) z)) c.args.x.window (search rules) c.outside.ensures) i || (by-itself (λ z. lt_z (pos c.args.n) z) c.args.x.window (search rules) c.above.ensures) i) c.refuse_if.ensures) c.in_ok-refuse_if.was) (line 4 (by-itself (λ z. not (within (pos 1) (pos 1000000) z)) c.args.x.width (search rules) c.outside-2.ensures) c.refuse_if-2.ensures) c.in_ok-refuse_if-2.was) (line 5 (by-itself (λ z. not (within (pos 0) (pos 100) z)) c.args.x.merge (search rules) c.outside-3.ensures) c.refuse_if-3.ensures) c.in_ok-refuse_if-3.was) (line 6 c.query_length_outside.ensures c.refuse_if-4.ensures) c.in_ok-refuse_if-4.was) (line 7 (by-itself (λ z. lt_z (pos c.args.m) z) c.args.x.window (search rules) c.above-2.ensures) c.refuse_if-5.ensures) c.in_ok-refuse_if-5.was) (line 8 (by-itself (λ z. not (band_in c.args.m z)) c.args.x.band (search rules) c.band_outside.ensures) c.refuse_if-6.ensures) c.in_ok-refuse_if-6.was) (line 9 (by-itself (λ z. not (within (pos 0) (pos 1000000000000) z)) c.args.x.threshold (search rules) c.outside-4.ensures) c.refuse_if-7.ensures) c.in_ok-refuse_if-7.was)
