-- `refuse_windows`: each test is a line of the table, and both buffers are the last of them.
use Rattle.std.specs.Prelude.{Err}
use Rattle.meaning_numbers.proofs.Prelude.{◌≡◌, refl, sym, ◌∙◌, length, [], ◌∷◌, rules}
use Rattle.meaning_rows.specs.Index.{lent}
use Rattle.meaning_filter.specs.Closest.{fewest}
use Rattle.meaning_entries.specs.Refusal.{more_windows, buffer_short}
use Rattle.refusals.proofs.RefusalLaws.{line, goes-on, stops}
use Rattle.candidate_plan.specs.Tables.{windows_table}
use Rattle.candidate_plan.proofs.refuse_windows.Goals as goal

pub returns-in_err-refuse_if : goal.returns-in_err-refuse_if
unfolding windows_table more_windows buffer_short
returns-in_err-refuse_if c =
    let e : c.from_residual.result ≡ Err c.in_err-refuse_if.field-0.0 = search rules in
    e ∙ sym (stops (more_windows (lent c.args.head [] [] []) (length c.args.s.now) ∷ []) _ refl (line 22 c.more.ensures c.refuse_if.ensures) c.in_err-refuse_if.was)

pub returns-in_err-refuse_if-2 : goal.returns-in_err-refuse_if-2
unfolding windows_table more_windows buffer_short
returns-in_err-refuse_if-2 c =
    let e : c.from_residual-in_err-refuse_if-2.result ≡ Err c.in_err-refuse_if-2.field-0.0 = search rules in
    e ∙ sym (stops (buffer_short c.args.list (fewest c.args.pick) ∷ []) _ (goes-on (more_windows (lent c.args.head [] [] []) (length c.args.s.now) ∷ []) _ refl (line 22 c.more.ensures c.refuse_if.ensures) c.in_ok-refuse_if.was) (line 23 c.list_below.ensures c.refuse_if-2.ensures) c.in_err-refuse_if-2.was)

pub returns : goal.returns
unfolding windows_table more_windows buffer_short
returns c = c.refuse_room.ensures ∙ sym (goes-on (buffer_short c.args.list (fewest c.args.pick) ∷ []) _ (goes-on (more_windows (lent c.args.head [] [] []) (length c.args.s.now) ∷ []) _ refl (line 22 c.more.ensures c.refuse_if.ensures) c.in_ok-refuse_if.was) (line 23 c.list_below.ensures c.refuse_if-2.ensures) c.in_ok-refuse_if-2.was)
