-- `refuse_write`: each test is a line of the table.
use Rattle.std.specs.Prelude.{Err}
use Rattle.std.proofs.Common.{◌≡◌, refl, sym, ◌∙◌, [], ◌∷◌, rules, ltb}
use Rattle.meaning_entries.specs.Refusal.{buffer_short}
use Rattle.refusals.specs.Refusal.{judged_line}
use Rattle.refusals.proofs.RefusalLaws.{line, goes-on, stops}
use Rattle.entry_write.specs.Answer.{table_of}
use Rattle.entry_write.proofs.refuse_write.Goals as goal

pub returns-in_err-refuse_judged : goal.returns-in_err-refuse_judged
unfolding table_of buffer_short
returns-in_err-refuse_judged c =
    let e : c.from_residual.result ≡ Err c.in_err-refuse_judged.field-0.0 = search rules in
    e ∙ sym (stops (judged_line c.args.judged ∷ []) _ refl (c.refuse_judged.ensures) c.in_err-refuse_judged.was)

pub returns : goal.returns
unfolding table_of buffer_short
returns c = line 23 {b = ltb c.args.size c.args.n} refl c.refuse_if.ensures ∙ sym (goes-on (judged_line c.args.judged ∷ []) _ refl (c.refuse_judged.ensures) c.in_ok-refuse_judged.was)
