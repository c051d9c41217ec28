-- `refuse_input`, one part of the table after the other.
use Rattle.std.specs.Prelude.{Err}
use Rattle.meaning_numbers.proofs.Prelude.{◌≡◌, refl, sym, ◌∙◌, rules}
use Rattle.meaning_entries.specs.Refusal.{flat_query}
use Rattle.refusals.specs.Refusal.{passes}
use Rattle.refusals.proofs.RefusalLaws.{line, goes-on, stops}
use Rattle.candidate_plan.specs.Tables.{values_table, numbers_table, input_table}
use Rattle.candidate_plan.proofs.Cases.{values-in, query-few}
use Rattle.candidate_plan.proofs.refuse_input.Goals as goal

pub returns-in_err-refuse_values : goal.returns-in_err-refuse_values
unfolding input_table flat_query
returns-in_err-refuse_values c =
    let e : c.from_residual.result ≡ Err c.in_err-refuse_values.field-0.0 = search rules in
    e ∙ sym (stops (values_table c.args.s.now c.args.q.now) _ refl (c.refuse_values.ensures) c.in_err-refuse_values.was)

pub returns-in_err-refuse_numbers : goal.returns-in_err-refuse_numbers
unfolding input_table flat_query
returns-in_err-refuse_numbers c =
    let e : c.from_residual-in_err-refuse_numbers.result ≡ Err c.in_err-refuse_numbers.field-0.0 = search rules in
    e ∙ sym (stops (numbers_table c.args.s.now c.args.q.now c.args.w c.args.ask) _ (goes-on (values_table c.args.s.now c.args.q.now) _ refl (c.refuse_values.ensures) c.in_ok-refuse_values.was) (c.refuse_numbers.ensures) c.in_err-refuse_numbers.was)

pub returns : goal.returns
unfolding input_table flat_query
returns c = line 11 c.normal_flat.ensures c.refuse_if.ensures ∙ sym (goes-on (numbers_table c.args.s.now c.args.q.now c.args.w c.args.ask) _ (goes-on (values_table c.args.s.now c.args.q.now) _ refl (c.refuse_values.ensures) c.in_ok-refuse_values.was) (c.refuse_numbers.ensures) c.in_ok-refuse_numbers.was)

pub normal_flat-requires : goal.normal_flat-requires
normal_flat-requires c =
    let a = c.args in
    let values = passes (values_table c.args.s.now c.args.q.now) c.refuse_values.ensures c.in_ok-refuse_values.was in
    let numbers = passes (numbers_table c.args.s.now c.args.q.now c.args.w c.args.ask) c.refuse_numbers.ensures c.in_ok-refuse_numbers.was in
    ((values-in a.s.now a.q.now values).1, query-few a.s.now a.q.now a.w a.ask numbers)
