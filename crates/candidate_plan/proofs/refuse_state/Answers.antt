-- `refuse_state`: what judging said, then the windows.
use Rattle.std.specs.Prelude.{Err}
use Rattle.meaning_numbers.proofs.Prelude.{◌≡◌, refl, sym, ◌∙◌, [], ◌∷◌, rules}
use Rattle.refusals.specs.Refusal.{judged_line}
use Rattle.refusals.proofs.RefusalLaws.{goes-on, stops}
use Rattle.candidate_plan.specs.Tables.{state_table}
use Rattle.candidate_plan.proofs.refuse_state.Goals as goal

pub returns-in_err-refuse_judged : goal.returns-in_err-refuse_judged
unfolding state_table
returns-in_err-refuse_judged c =
    let e : c.from_residual.result ≡ Err c.in_err-refuse_judged.field-0.0 = search rules in
    e ∙ sym (stops (judged_line c.args.judged ∷ []) _ refl (c.refuse_judged.ensures) c.in_err-refuse_judged.was)

pub returns : goal.returns
unfolding state_table
returns c = c.refuse_windows.ensures ∙ sym (goes-on (judged_line c.args.judged ∷ []) _ refl (c.refuse_judged.ensures) c.in_ok-refuse_judged.was)
