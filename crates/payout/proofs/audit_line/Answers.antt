-- `audit_line`. By what the line came to.
use Rattle.std.specs.Prelude.{Err}
use Rattle.meaning_numbers.proofs.Prelude.{ℕ, ap, ◌∙◌, ◌+◌, arith}
use Rattle.meaning_text.proofs.Lines.{newlines-length}
use Rattle.meaning_entries.specs.Answers.{refusal}
use Rattle.payout.proofs.Outcome.{line-most, line-stopped, line-counted}
use Rattle.payout.proofs.audit_line.Goals as goal

pub overflow_add-place : goal.overflow_add-place
overflow_add-place c = omega (arith, c.newline_count.ensures, c.bad_line.ensures, newlines-length c.args.index.now, line-most c.args.line.now c.in-Err.at)

pub returns-in-Err : goal.returns-in-Err
returns-in-Err c =
    ap (λ r. Err r) c.at.ensures ∙ ap (λ (k : ℕ). Err (refusal (12, k))) (λ i. c.newline_count.ensures i + c.bad_line.ensures i)
    ∙ line-stopped c.args.index.now c.args.line.now c.args.head c.args.c c.requires c.in-Err.at c.in-Err.ensures.value

pub returns-in-Ok : goal.returns-in-Ok
returns-in-Ok c =
    c.audit_values.ensures
    ∙ line-counted c.args.index.now c.args.line.now c.args.head c.args.c c.requires c.in-Ok.n _ c.in-Ok.ensures.value c.in-Ok.ensures.stored
