-- `merge_packed`: the rows before and after each run are named, and the rows merged by the names.
use Rattle.std.proofs.Common.{◌≡◌, length}
use Rattle.build_merging.proofs.Standing.{standing-unnamed, rows_of, standing-ready, standing-mergeable}
use Rattle.build_merging.proofs.merge_packed.Goals as goal

pub name_neighbours-requires : goal.name_neighbours-requires
name_neighbours-requires c = standing-unnamed _ _ _ _ _ _ _ c.requires.0

pub merge_rows-requires : goal.merge_rows-requires
merge_rows-requires c =
    let long-left : length c.name_neighbours.new.left ≡ length c.args.left.now = c.name_neighbours.auto.left in
    let long-right : length c.name_neighbours.new.right ≡ length c.args.right.now = c.name_neighbours.auto.right in
    (standing-mergeable _ _ _ _ _ _ _ c.requires.0 _ _ long-left long-right c.name_neighbours.ensures, c.requires.1)

pub returns : goal.returns
returns c = λ m sound packed.
    let long-left : length c.name_neighbours.new.left ≡ length c.args.left.now = c.name_neighbours.auto.left in
    let long-right : length c.name_neighbours.new.right ≡ length c.args.right.now = c.name_neighbours.auto.right in
    let a = c.args in
    let l = c.name_neighbours.new.left in
    let r = c.name_neighbours.new.right in
    c.merge_rows.ensures (rows_of a.s.now a.w a.e a.rows.now a.n a.left.now a.right.now c.requires.0 l r long-left long-right c.name_neighbours.ensures m)
    (standing-ready a.s.now a.w a.e a.rows.now a.n a.left.now a.right.now c.requires.0 l r long-left long-right c.name_neighbours.ensures m sound packed)
