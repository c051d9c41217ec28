-- `newline_count`: the last line has every newline before it.
use Rattle.meaning_numbers.proofs.Prelude.{ap, ◌∙◌, ◌-◌, arith, length}
use Rattle.meaning_text.proofs.Lines.{line-counts}
use Rattle.payout.proofs.Outcome.{last_line}
use Rattle.payout.proofs.newline_count.Goals as goal

pub overflow_sub-result : goal.overflow_sub-result
overflow_sub-result c = let t = c.args.text.now in omega (arith, c.bad_line.ensures, line-counts t (length t))

pub returns : goal.returns
returns c = ap (λ n. n - 1) c.bad_line.ensures ∙ last_line c.args.text.now
