-- `make_passes`: rows woven, runs counted, parts laid out, old runs copied, the first new run joined or begun, the others filed.
use Rattle.meaning_numbers.proofs.Prelude.{◌<◌, length, ◌∙◌, arith}
use Rattle.extend_passes.proofs.Stages.{counts, in_rows, lays, copies, joins, fills, extends}
use Rattle.extend_passes.proofs.make_passes.Goals as goal

pub count_rows-i-requires : goal.count_rows-i-requires
count_rows-i-requires g c =
    let woven = rw c.requires.0 at c.weave_new-n.ensures in
    let long = c.weave_new-n.auto.left in
    counts c.requires.1 woven long

pub row_at-r-requires : goal.row_at-r-requires
row_at-r-requires g c =
    let woven = rw c.requires.0 at c.weave_new-n.ensures in
    let long = c.weave_new-n.auto.left in
    in_rows c.requires.1 woven long c.count_rows-i.ensures

pub lay_joined-requires : goal.lay_joined-requires
lay_joined-requires g c =
    let woven = rw c.requires.0 at c.weave_new-n.ensures in
    let long = c.weave_new-n.auto.left in
    lays c.requires.1 woven long c.count_rows-i.ensures c.row_at-r.ensures

pub copy_runs-requires : goal.copy_runs-requires
copy_runs-requires g c =
    let woven = rw c.requires.0 at c.weave_new-n.ensures in
    let long = c.weave_new-n.auto.left in
    let wl = c.lay_joined.auto.left ∙ c.count_rows-i.auto.left ∙ long in
    let vr = c.count_rows-i.auto.right in
    copies c.requires.1 woven long c.count_rows-i.ensures c.row_at-r.ensures c.lay_joined.ensures wl vr

pub row_at-q-requires : goal.row_at-q-requires
row_at-q-requires g c =
    let woven = rw c.requires.0 at c.weave_new-n.ensures in
    let long = c.weave_new-n.auto.left in
    let l : c.count_rows-i.result < length c.weave_new-n.new.rows = in_rows c.requires.1 woven long c.count_rows-i.ensures in
    omega arith

pub join_first-at-requires : goal.join_first-at-requires
join_first-at-requires g c =
    let woven = rw c.requires.0 at c.weave_new-n.ensures in
    let long = c.weave_new-n.auto.left in
    let wl = c.lay_joined.auto.left ∙ c.count_rows-i.auto.left ∙ long in
    let vr = c.count_rows-i.auto.right in
    joins c.requires.1 woven long c.count_rows-i.ensures c.row_at-r.ensures c.lay_joined.ensures wl vr c.copy_runs.ensures c.row_at-q.ensures

pub fill_parts-requires : goal.fill_parts-requires
fill_parts-requires g c =
    let woven = rw c.requires.0 at c.weave_new-n.ensures in
    let long = c.weave_new-n.auto.left in
    let wl = c.lay_joined.auto.left ∙ c.count_rows-i.auto.left ∙ long in
    let vr = c.count_rows-i.auto.right in
    rw c.requires.0 (fills c.requires.1 woven long c.count_rows-i.ensures c.row_at-r.ensures c.lay_joined.ensures wl vr c.copy_runs.ensures c.row_at-q.ensures c.join_first-at.ensures)

pub returns : goal.returns
returns g c =
    let woven = rw c.requires.0 at c.weave_new-n.ensures in
    let long = c.weave_new-n.auto.left in
    let wl = c.lay_joined.auto.left ∙ c.count_rows-i.auto.left ∙ long in
    let vr = c.count_rows-i.auto.right in
    extends c.requires.1 woven long c.count_rows-i.ensures c.row_at-r.ensures c.lay_joined.ensures wl vr c.copy_runs.ensures c.row_at-q.ensures c.join_first-at.ensures (rw c.requires.0 at c.fill_parts.ensures)
