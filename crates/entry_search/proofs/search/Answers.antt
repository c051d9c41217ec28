-- `search`: the candidates are found (`finish-asked`), and then checked (`both-kept`).
use Rattle.meaning_entries.specs.Search.{search_buffers}
use Rattle.entry_search.proofs.Looks.{finish-asked, both-kept}
use Rattle.entry_search.proofs.search.Goals as goal

pub finish-requires : goal.finish-requires
finish-requires c =
    let a = c.args in
    finish-asked a.series.now a.head a.rows.now a.left.now a.right.now a.ask a.query.now (search_buffers a.first.now a.last.now a.scratch.now a.offsets.now a.distances.now) c.find_candidates-sought.result c.find_candidates-sought.ensures

pub returns : goal.returns
returns c =
    let a = c.args in
    both-kept a.series.now a.head a.rows.now a.left.now a.right.now a.ask a.query.now (search_buffers a.first.now a.last.now a.scratch.now a.offsets.now a.distances.now) c.find_candidates-sought.result c.find_candidates-sought.ensures c.finish.ensures
