-- `refuse_call`, one part of the table after the other.
use Rattle.std.specs.Prelude.{Err}
use Rattle.meaning_numbers.proofs.Prelude.{◌≡◌, refl, sym, ap, ◌∙◌, ◌≤◌, length, take, length-take, w64, to_z-of_z, rules, arith}
use Rattle.meaning_entries.specs.Refusal.{flat_query, normal_flat}
use Rattle.refusals.specs.Refusal.{passes}
use Rattle.refusals.proofs.RefusalLaws.{line, goes-on, stops}
use Rattle.program_input.specs.Tables.{kind_of, values_table, numbers_table, call_table}
use Rattle.program_input.proofs.Text.{series-few, query-in, query-few}
use Rattle.program_input.proofs.refuse_call.Goals as goal

pub returns-in_err-refuse_values : goal.returns-in_err-refuse_values
unfolding call_table flat_query
returns-in_err-refuse_values c =
    let e : c.from_residual.result ≡ Err c.in_err-refuse_values.field-0.0 = search rules in
    e ∙ sym (stops (values_table c.args.v c.args.q) _ refl (c.refuse_values.ensures) c.in_err-refuse_values.was)

pub returns-in_err-refuse_numbers : goal.returns-in_err-refuse_numbers
unfolding call_table flat_query
returns-in_err-refuse_numbers c =
    let e : c.from_residual-in_err-refuse_numbers.result ≡ Err c.in_err-refuse_numbers.field-0.0 = search rules in
    e ∙ sym (stops (numbers_table c.args.v.count c.args.q.count c.args.x) _ (goes-on (values_table c.args.v c.args.q) _ refl (c.refuse_values.ensures) c.in_ok-refuse_values.was) (c.refuse_numbers.ensures) c.in_err-refuse_numbers.was)

pub returns : goal.returns
unfolding call_table flat_query
returns c = line 11 (c.normal_flat.ensures ∙ ap (λ k. normal_flat k (take c.args.q.count c.args.query.now)) (c.kind_of.ensures ∙ ap kind_of (to_z-of_z w64 c.args.x.raw (search rules)))) c.refuse_if.ensures ∙ sym (goes-on (numbers_table c.args.v.count c.args.q.count c.args.x) _ (goes-on (values_table c.args.v c.args.q) _ refl (c.refuse_values.ensures) c.in_ok-refuse_values.was) (c.refuse_numbers.ensures) c.in_ok-refuse_numbers.was)

pub refuse_numbers-requires : goal.refuse_numbers-requires
refuse_numbers-requires c = (omega (arith, series-few c.args.v c.args.q (passes (values_table c.args.v c.args.q) c.refuse_values.ensures c.in_ok-refuse_values.was)), c.requires.few)

pub slice_bounds-normal_flat-end : goal.slice_bounds-normal_flat-end
slice_bounds-normal_flat-end c =
    let short = query-few c.args.v.count c.args.q.count c.args.x (passes (numbers_table c.args.v.count c.args.q.count c.args.x) c.refuse_numbers.ensures c.in_ok-refuse_numbers.was) in
    let h : c.args.q.count ≤ length c.args.query.now = omega (arith, short, c.requires.long) in
    simp length-take (omega (arith, h))

pub normal_flat-requires : goal.normal_flat-requires
normal_flat-requires c =
    let first = passes (values_table c.args.v c.args.q) c.refuse_values.ensures c.in_ok-refuse_values.was in
    let short = query-few c.args.v.count c.args.q.count c.args.x (passes (numbers_table c.args.v.count c.args.q.count c.args.x) c.refuse_numbers.ensures c.in_ok-refuse_numbers.was) in
    (c.requires.inside (query-in c.args.v c.args.q first) short, simp length-take (omega (arith, short)))
