-- `audit_pair`. By what the index text came to.
use Rattle.std.specs.Prelude.{Err}
use Rattle.meaning_numbers.proofs.Prelude.{ℕ, ap, ◌∙◌}
use Rattle.meaning_entries.specs.Answers.{refusal}
use Rattle.payout.proofs.Outcome.{index-stopped}
use Rattle.payout.proofs.audit_pair.Goals as goal

pub returns-in-Err : goal.returns-in-Err
returns-in-Err c = ap (λ r. Err r) c.at.ensures ∙ ap (λ (k : ℕ). Err (refusal (12, k))) c.bad_line.ensures ∙ index-stopped c.args.index.now c.args.line.now c.in-Err.at c.in-Err.ensures
