-- `plan_search`: the input, then the state.
use Rattle.std.specs.Prelude.{Err}
use Rattle.meaning_numbers.proofs.Prelude.{◌≡◌, refl, sym, ap₂, ◌∙◌, ℕ, rules}
use Rattle.refusals.specs.Refusal.{verdict}
use Rattle.refusals.proofs.RefusalLaws.{goes-on, stops}
use Rattle.candidate_plan.specs.Tables.{input_table, state_table, plan_of}
use Rattle.candidate_plan.proofs.plan_search.Goals as goal

pub returns-in_err-refuse_input : goal.returns-in_err-refuse_input
unfolding plan_of
returns-in_err-refuse_input c =
    let e : c.from_residual.result ≡ Err c.in_err-refuse_input.field-0.0 = search rules in
    e ∙ sym (stops (input_table c.args.s.now c.args.q.now c.args.head.window c.args.ask) _ refl (c.refuse_input.ensures) c.in_err-refuse_input.was)

pub returns : goal.returns
unfolding plan_of
returns c = (c.refuse_state.ensures ∙ ap₂ (λ (l n : ℕ). verdict (state_table c.args.s.now c.args.head c.args.judged c.args.ask.pick l n c.args.scratch)) c.min-list.ensures c.min-candidates.ensures) ∙ sym (goes-on (input_table c.args.s.now c.args.q.now c.args.head.window c.args.ask) _ refl (c.refuse_input.ensures) c.in_ok-refuse_input.was)
