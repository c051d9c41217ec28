-- `write_part`: all numbers are copied, and where they do not fill the part, its last entry becomes their number.
use Rattle.meaning_numbers.proofs.Prelude.{◌≡◌, arith, lt-ltb, le-ltb}
use Rattle.extend_parts.specs.Copy.{written}
use Rattle.extend_parts.proofs as own
use own.Copy.{paste_more}
use Rattle.extend_parts.proofs.write_part.Goals as goal

pub loop-t-preserved : goal.loop-t-preserved
loop-t-preserved c = rw c.loop-t.invariant (paste_more c.args.part.now c.args.numbers.now c.loop-t.t (omega arith) (omega arith))

pub returns-then-n-size : goal.returns-then-n-size
unfolding written
returns-then-n-size c =
    let a = c.args in
    let e : c.loop-t.t ≡ a.n = omega arith in
    rw (lt-ltb a.n a.size c.if-n-size.true) (rw (rw e at c.loop-t.invariant))

pub returns-else-n-size : goal.returns-else-n-size
unfolding written
returns-else-n-size c =
    let a = c.args in
    let e : c.loop-t.t ≡ a.n = omega arith in
    rw (le-ltb a.n a.size c.if-n-size.false) (rw e at c.loop-t.invariant)
