-- `lay_rows`: a record is read, given its part and written a turn.
use Rattle.meaning_numbers.proofs.Prelude.{◌≡◌, sym, ap, ◌∙◌, ℕ, arith}
use Rattle.extend_parts.specs.Lay.{laid_to}
use Rattle.extend_parts.proofs.Lay.{laid_none, laid_more}
use Rattle.extend_parts.proofs.lay_rows.Goals as goal

pub loop-i-init : goal.loop-i-init
loop-i-init c = sym (laid_none _ _)

pub loop-i-preserved : goal.loop-i-preserved
loop-i-preserved c = rw (c.with_part.ensures, c.loop-i.invariant) (sym (laid_more c.args.ends.now c.loop-i.i c.args.rows.now))

pub returns : goal.returns
returns c =
    let e : c.loop-i.i ≡ c.args.count = omega arith in
    c.loop-i.invariant ∙ ap (λ (j : ℕ). laid_to c.args.ends.now j c.args.rows.now) e
