use Rattle.meaning_numbers.proofs.Count.{flag-bit, bit_le}
use Rattle.meaning_numbers.proofs.Prelude.{refl, not, ◌&&◌, arith}
use Rattle.candidate_counts.specs.Handed.{stood}
use Rattle.candidate_counts.proofs.Take.{taking-starts, taking-next, taking-ends}
use Rattle.candidate_counts.proofs.take_each.Goals as goal

pub loop-j-init : goal.loop-j-init
loop-j-init c = taking-starts _ _ _ _ _ c.requires.begun

pub put-requires-clause-prev_in_bounds : goal.put-requires-clause-prev_in_bounds
put-requires-clause-prev_in_bounds c =
    let t = c.loop-j.invariant in
    let b = bit_le (stood c.args.scratch.now c.args.p c.loop-j.j && not c.loop-j.now.going) in
    (omega (arith, b, t.few, c.requires.few, c.requires.in_left, t.long-left), omega (arith, b, t.few, c.requires.few, c.requires.in_right, t.long-right), t.begun)

pub loop-j-preserved : goal.loop-j-preserved
loop-j-preserved c =
    let e = c.put.ensures in
    rw (flag-bit _) (taking-next c.loop-j.invariant refl e.value e.left_after e.right_after)

pub returns : goal.returns
returns c = taking-ends (omega arith) c.loop-j.invariant
