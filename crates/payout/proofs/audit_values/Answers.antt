-- `audit_values`: the limit on n first.
use Rattle.std.specs.Prelude.{Err}
use Rattle.meaning_numbers.proofs.Prelude.{sym, ap, ◌∙◌, ◌≤◌, arith, length, length-take-le}
use Rattle.meaning_curves.specs.Limits.{most_program_values}
use Rattle.meaning_rows.proofs.Judge.{between}
use Rattle.meaning_entries.specs.Load.{text_index}
use Rattle.payout.proofs.Outcome.{counted-outside, counted-inside}
use Rattle.payout.proofs.audit_values.Goals as goal

pub returns-then-not-length_in : goal.returns-then-not-length_in
returns-then-not-length_in c = ap (λ r. Err r) c.at.ensures ∙ counted-outside _ _ c.args.n (sym c.length_in.ensures ∙ c.if-not-length_in.true)

pub slice_bounds-audit_series-end : goal.slice_bounds-audit_series-end
slice_bounds-audit_series-end c =
    let b = between 1 most_program_values _ (sym c.length_in.ensures ∙ c.if-not-length_in.false) in
    let h : c.args.n ≤ length c.args.values.now = omega (arith, b.most, c.requires.most_program_values_in_bounds) in
    omega (arith, length-take-le c.args.n c.args.values.now h)

pub returns : goal.returns
returns c = c.audit_series.ensures ∙ counted-inside (text_index c.args.index.now) c.args.values.now c.args.n (sym c.length_in.ensures ∙ c.if-not-length_in.false)
