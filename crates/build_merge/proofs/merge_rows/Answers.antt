-- A turn reads the next record, joins it to the group or closes the group, and writes the group's record to its place.
use Rattle.meaning_numbers.proofs.Prelude.{rules, ◌<◌, length, arith}
use Rattle.build_merge.proofs.Turn.{started, ended, able, in_place, turned}
use Rattle.build_merge.proofs.merge_rows.Goals as goal

pub loop-i-init : goal.loop-i-init
loop-i-init c = started _ _ _ _ _ c.requires c.first_group-m.ensures

pub merge_row-m-requires : goal.merge_row-m-requires
merge_row-m-requires c = able _ _ _ _ _ c.requires c.loop-i.invariant c.loop-i-test.true

pub offset_bounds-rows-m : goal.offset_bounds-rows-m
offset_bounds-rows-m c =
    let below : c.merge_row-m.result.place < length c.args.rows.now = in_place _ _ _ _ _ c.requires c.loop-i.invariant c.loop-i-test.true c.merge_row-m.ensures c.loop-i.auto.rows in
    search rules

pub bounds-rows-m : goal.bounds-rows-m
bounds-rows-m c = omega (arith, in_place _ _ _ _ _ c.requires c.loop-i.invariant c.loop-i-test.true c.merge_row-m.ensures c.loop-i.auto.rows)

pub loop-i-preserved : goal.loop-i-preserved
loop-i-preserved c = turned _ _ _ _ _ c.requires c.loop-i.invariant c.loop-i-test.true c.merge_row-m.ensures

pub returns : goal.returns
returns c = ended _ _ _ _ _ c.requires c.loop-i.invariant c.loop-i-test.false
