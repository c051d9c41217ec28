-- `read_all`: the pieces bring no more bytes than can be read, and each is read on.
use Rattle.meaning_numbers.proofs.Prelude.{◌+◌, ◌*◌, ◌-◌, ap, arith}
use Rattle.find.proofs as own
use own.Reading.{input_of, open-less, step-goes, read-less}
use Rattle.find.proofs.read_all.Goals as goal

pub loop-init : goal.loop-init
loop-init c = read-less 4611686018427387904 _ _ _ _ _ (omega arith) c.requires

pub read_on-requires : goal.read_on-requires
read_on-requires c = open-less _ _ _ (omega arith) c.loop.invariant.opened

pub loop-preserved : goal.loop-preserved
loop-preserved c =
    step-goes (ap input_of c.in-Continue.is) c.read_on.ensures (65536 * (70368744177663 - (c.loop.counter + 1))) (read-less _ _ _ _ _ _ (omega arith) c.loop.invariant)

pub returns-in-Break : goal.returns-in-Break
returns-in-Break c = step-goes (ap input_of c.in-Break.is) c.read_on.ensures 0 (read-less _ _ _ _ _ _ (omega arith) c.loop.invariant)

pub returns : goal.returns
returns c = read-less _ 0 _ _ _ _ (omega arith) c.loop.invariant
