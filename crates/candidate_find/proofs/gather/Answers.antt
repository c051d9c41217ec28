-- `gather`: the ranges of the parts are put into the candidate buffer, each is replaced by the stretch of runs that it meets, and the candidates are handed out (`gathered`).
use Rattle.candidate_find.proofs.Looks.{put-asked, meet-asked, hand-asked, gathered}
use Rattle.candidate_find.proofs.gather.Goals as goal

pub put_parts-parts-requires : goal.put_parts-parts-requires
put_parts-parts-requires c =
    let a = c.args in
    put-asked a.series.now a.head a.rows.now a.left.now a.right.now a.ask a.query.now a.first.now a.last.now a.scratch.now c.requires

pub meet_parts-requires : goal.meet_parts-requires
meet_parts-requires c =
    let a = c.args in
    let put = c.put_parts-parts.ensures in
    rw put.1 (meet-asked a.series.now a.head a.rows.now a.left.now a.right.now a.ask a.query.now a.first.now a.last.now a.scratch.now c.requires put.0)

pub hand_out-requires : goal.hand_out-requires
hand_out-requires c =
    let a = c.args in
    let put = c.put_parts-parts.ensures in
    hand-asked a.series.now a.head a.rows.now a.left.now a.right.now a.ask a.query.now a.first.now a.last.now a.scratch.now c.requires put.0 (rw put.1 at c.meet_parts.ensures)

pub returns : goal.returns
returns c =
    let a = c.args in
    let put = c.put_parts-parts.ensures in
    gathered a.series.now a.head a.rows.now a.left.now a.right.now a.ask a.query.now a.first.now a.last.now a.scratch.now c.requires put.0 (rw put.1 at c.meet_parts.ensures) c.hand_out.ensures
