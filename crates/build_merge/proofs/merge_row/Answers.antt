-- `merge_row`: in each branch the test on counts is the test of `next_group`, and what is stored in a signed field is what it was.
use Rattle.meaning_numbers.proofs.Prelude.{rules, lt-ltb, le-ltb, w32, SFits, to_z-of_z}
use Rattle.build_merge.specs.Group.{next_group}
use Rattle.build_merge.proofs.merge_row.Goals as goal

pub returns-then-union-g : goal.returns-then-union-g
unfolding next_group
returns-then-union-g c =
    let t = c.count_touching in
    let low : SFits w32 c.args.m.row.low = search rules in
    let up : SFits w32 c.args.r.up = search rules in
    rw (lt-ltb _ _ (rw t.ensures at c.if-union-g.true), to_z-of_z w32 c.args.m.row.low low, to_z-of_z w32 c.args.r.up up, t.ensures)

pub returns-else-union-g : goal.returns-else-union-g
unfolding next_group
returns-else-union-g c =
    let h = rw c.count_touching.ensures at c.if-union-g.false in
    let low : SFits w32 c.args.r.low = search rules in
    let up : SFits w32 c.args.r.up = search rules in
    rw (le-ltb _ _ h, to_z-of_z w32 c.args.r.low low, to_z-of_z w32 c.args.r.up up)
