use Rattle.std.specs.Prelude.{Ok, Err}
use Rattle.meaning_numbers.proofs.Prelude.{◌-◌, rules, length, take, ◌≡◌, refl, ◌∙◌, arith}
use Rattle.try_c_lines.specs.Piece.{Stands}
use Rattle.try_c_lines.proofs as own
use own.PieceLaws.{Comes}
use own.Laws.{begins, goes_on, fails, ends, told}
use Rattle.try_c_lines.proofs.lines_read.Goals as goal

pub loop-k-init : goal.loop-k-init
loop-k-init c = let b = begins _ _ _ _ _ c.begin-p.ensures in (b.0, b.1, refl, refl, refl)

pub loop-k-preserved : goal.loop-k-preserved
loop-k-preserved c =
    let e = c.piece.ensures in
    let i = c.loop-k.invariant in
    let g = goes_on i.1 e (omega arith) c.in-Ok.is (omega arith) in
    (g.0, g.1, e.alone ∙ i.2, e.first ∙ i.3, e.second ∙ i.4)

pub returns-in-Err : goal.returns-in-Err
returns-in-Err c =
    let i = c.loop-k.invariant in
    rw c.bad.ensures (told _ _ (Err _) (fails i.1 c.piece.ensures (omega (arith, i.0.inside)) c.in-Err.is))

pub returns : goal.returns
returns c =
    let i = c.loop-k.invariant in
    rw c.answer.ensures (told _ _ _ (ends i.1 c.piece-2.ensures (omega (arith, i.0.inside)) (omega arith)))
