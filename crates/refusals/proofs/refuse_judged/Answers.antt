-- `refuse_judged`, by what judging said.
use Rattle.meaning_numbers.proofs.Prelude.{sym, ap, ◌∙◌, []}
use Rattle.std.specs.Prelude.{Err}
use Rattle.rows_judge.specs.Judged.{bad_row}
use Rattle.refusals.specs.Refusal.{judged_line}
use Rattle.refusals.proofs as own
use own.RefusalLaws.{none_is, place_is, place_none}
use Rattle.refusals.proofs.refuse_judged.Goals as goal

pub returns-in-Ok : goal.returns-in-Ok
unfolding bad_row
returns-in-Ok c = none_is ∙ sym (place_none (judged_line c.args.judged) [] (ap bad_row c.in-Ok.is))

pub returns-in-Err : goal.returns-in-Err
unfolding bad_row
returns-in-Err c = ap (λ r. Err r) c.at.ensures ∙ sym (place_is (judged_line c.args.judged) [] (ap bad_row c.in-Err.is))
