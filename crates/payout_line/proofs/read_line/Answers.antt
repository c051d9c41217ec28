-- `read_line`: the line is fed in one piece.
use lib.IntN.{pos}
use mathlib.Core.List.{[], ◌∷◌}
use mathlib.Core.Path.{◌∙◌}
use native.Mathlib.Omega.{arith}
use Rattle.std.proofs.lemmas.Grind.{common_steps}
use Rattle.text_lines.specs.Follow.{nothing_said}
use Rattle.payout_line.proofs.Whole.{start-ready, line-failed, line-going}
use Rattle.payout_line.proofs.read_line.Goals as goal

pub feed-requires : goal.feed-requires
feed-requires c = rw c.line_start.ensures (start-ready _ (omega arith))

pub returns-in_err-p : goal.returns-in_err-p
returns-in_err-p c =
    let q = rw c.line_start.ensures at (c.in_err-p.ensures.comes nothing_said c.args.values.now (pos 0 ∷ [])) in
    let r = line-failed c.args.line.now c.args.values.now _ (pos 0 ∷ []) _ _ _ q in
    record { value = grind (arith, common_steps); stored = r.1 }

pub returns : goal.returns
returns c =
    let q = rw c.line_start.ensures at (c.in_ok-p.ensures.comes nothing_said c.args.values.now (pos 0 ∷ [])) in
    let r = line-going c.args.line.now c.args.values.now _ (pos 0 ∷ []) _ _ c.in_ok-p.p q in
    record { value = c.line_end.ensures ∙ r.0; stored = r.1 }
