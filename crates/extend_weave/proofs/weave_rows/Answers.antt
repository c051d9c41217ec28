-- `weave_rows`: a turn takes the next old row or the next number, whichever has the lower range, and writes its record.
use Rattle.meaning_numbers.proofs.Prelude.{◌≡◌, w32, to_z, of_z, to_z-of_z}
use Rattle.extend_weave.proofs.Weave.{weaving-cell, weaving-starts, weaving-ends, weaving-room, weaving-turn, weaving-falls}
use Rattle.extend_weave.proofs.weave_rows.Goals as goal

pub loop-a-init : goal.loop-a-init
loop-a-init c = weaving-starts _ _ _ _ _ _ c.requires

pub low_at-low-requires : goal.low_at-low-requires
low_at-low-requires c = c.requires.cells

pub chosen-requires : goal.chosen-requires
chosen-requires c =
    let back : to_z w32 (of_z w32 c.low_at-low.result) ≡ c.low_at-low.result = to_z-of_z w32 _ (record { sfits = c.low_at-low.type_inv }) in
    rw (back, c.low_at-low.ensures) (weaving-cell _ _ _ _ _ _ c.requires c.loop-a.b c.loop-a.invariant.in-numbers)

pub bounds-rows-k : goal.bounds-rows-k
bounds-rows-k c = weaving-room _ _ _ _ _ _ c.requires c.loop-a.invariant c.loop-a-test.true

pub loop-a-preserved : goal.loop-a-preserved
loop-a-preserved c =
    let back : to_z w32 (of_z w32 c.low_at-low.result) ≡ c.low_at-low.result = to_z-of_z w32 _ (record { sfits = c.low_at-low.type_inv }) in
    rw (c.old_after-a.ensures, c.number_after-b.ensures, c.made_after-made.ensures, c.chosen.ensures, back, c.low_at-low.ensures, c.row_or-r.ensures, c.end_row-end.ensures)
    (weaving-turn _ _ _ _ _ _ c.requires c.loop-a.invariant c.loop-a-test.true)

pub loop-a-smaller : goal.loop-a-smaller
loop-a-smaller c =
    let back : to_z w32 (of_z w32 c.low_at-low.result) ≡ c.low_at-low.result = to_z-of_z w32 _ (record { sfits = c.low_at-low.type_inv }) in
    rw (c.old_after-a.ensures, c.number_after-b.ensures, back, c.low_at-low.ensures, c.row_or-r.ensures, c.end_row-end.ensures)
    (weaving-falls _ _ _ _ _ _ c.requires c.loop-a.invariant c.loop-a-test.true)

pub returns : goal.returns
returns c = weaving-ends _ _ _ _ _ _ c.requires c.loop-a.invariant c.loop-a-test.false
