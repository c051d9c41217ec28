-- `line_at`. Line 1 at the start; a newline counts one line more, and behind the last byte the line stays.
use Prim.Native.Nat.{suc, ◌<◌}
use borrow.Author.Tests.{eq-eqb, ne_eqb}
use lib.ListN.{length, get_or, take, length-take}
use lib.Seq.{take_all, get_or-take}
use mathlib.Core.Path.{◌≡◌, sym, ap, ◌∙◌}
use native.Mathlib.Decide.{dec_le}
use native.Mathlib.Numerals.{add-one}
use native.Mathlib.Omega.{arith}
use Rattle.meaning_text.specs.{Bytes.newlines, Read.line_of}
use Rattle.meaning_text.proofs.Lines.{line-start, line-next}
use Rattle.text_reader.proofs.line_at.Goals as goal
use Rattle.text_reader.proofs.line_at.Goals.{then-b-eq10, else-b-eq10}

pub loop-b-init : goal.loop-b-init
loop-b-init c = (sym (line-start _), omega arith)

pub loop-b-preserved : goal.loop-b-preserved
loop-b-preserved c =
    let t = c.args.text.now in
    let i = c.loop-b.b-index in
    let e = c.min-end.result in
    let h : i < length t = omega (arith, length-take e t) in
    let g : get_or (take e t) i 0 ≡ get_or t i 0 = get_or-take e t i 0 (omega (arith, length-take e t)) in
    elim c.if-b-eq10.branch [
      | then-b-eq10 w ↦ (rw (w.n-is, add-one i, line-next t i h, eq-eqb _ _ (sym g ∙ w.if-b-eq10.true)) (omega (arith, c.loop-b.invariant.0)), omega arith)
      | else-b-eq10 w ↦ (rw (w.n-is, add-one i, line-next t i h, ne_eqb _ _ (λ q. w.if-b-eq10.false (g ∙ q))) c.loop-b.invariant.0, omega arith)
    ]

pub returns : goal.returns
unfolding line_of
returns c =
    let t = c.args.text.now in
    let i = c.loop-b.b-index in
    let e = length-take c.min-end.result t in
    elim (dec_le (length t) c.args.at) [
      | yes h ↦ c.loop-b.invariant.0 ∙ ap (λ (p : _). suc (newlines p)) (take_all i t (omega arith) ∙ sym (take_all c.args.at t h))
      | no h ↦ let e : i ≡ c.args.at = omega arith in c.loop-b.invariant.0 ∙ ap (line_of t) e
    ]
