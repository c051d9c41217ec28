-- `refuse_rows`: each test is a line of the table.
use Rattle.std.specs.Prelude.{Err}
use Rattle.std.proofs.Common.{◌≡◌, refl, sym, ◌∙◌, [], ◌∷◌, rules, ltb}
use Rattle.meaning_entries.specs.Refusal.{buffer_short}
use Rattle.refusals.specs.Refusal.{judged_line}
use Rattle.refusals.proofs.RefusalLaws.{line, goes-on, stops}
use Rattle.text_judge.specs.Judged.{judged_rows}
use Rattle.entry_read.specs.Plan.{rows_table}
use Rattle.entry_read.proofs.refuse_rows.Goals as goal

pub returns-in_err-refuse_judged : goal.returns-in_err-refuse_judged
unfolding rows_table buffer_short
returns-in_err-refuse_judged c =
    let e : c.from_residual.result ≡ Err c.in_err-refuse_judged.field-0.0 = search rules in
    e ∙ sym (stops (judged_line (judged_rows c.args.head c.args.c) ∷ []) _ refl (rw c.judged_rows.ensures at c.refuse_judged.ensures) c.in_err-refuse_judged.was)

pub returns-in_err-refuse_if : goal.returns-in_err-refuse_if
unfolding rows_table buffer_short
returns-in_err-refuse_if c =
    let e : c.from_residual-in_err-refuse_if.result ≡ Err c.in_err-refuse_if.field-0.0 = search rules in
    e ∙ sym (stops (buffer_short c.args.rows c.args.c.rows ∷ []) _ (goes-on (judged_line (judged_rows c.args.head c.args.c) ∷ []) _ refl (rw c.judged_rows.ensures at c.refuse_judged.ensures) c.in_ok-refuse_judged.was) (line 23 {b = ltb c.args.rows c.args.c.rows} refl c.refuse_if.ensures) c.in_err-refuse_if.was)

pub returns : goal.returns
unfolding rows_table buffer_short
returns c = line 23 {b = ltb c.args.runs c.args.c.runs} refl c.refuse_if-2.ensures ∙ sym (goes-on (buffer_short c.args.rows c.args.c.rows ∷ []) _ (goes-on (judged_line (judged_rows c.args.head c.args.c) ∷ []) _ refl (rw c.judged_rows.ensures at c.refuse_judged.ensures) c.in_ok-refuse_judged.was) (line 23 {b = ltb c.args.rows c.args.c.rows} refl c.refuse_if.ensures) c.in_ok-refuse_if.was)
