-- `put_prepared`: the ranges of the parts are those of document 01 (`range-is`).
use Rattle.candidate_spans.proofs.Query.{query-ready, ends-ready, ranges-held}
use Rattle.candidate_spans.proofs.put_prepared.Goals as goal

pub frame_of-f-requires : goal.frame_of-f-requires
frame_of-f-requires c = query-ready c.requires.ranges_ready c.prepare-query.ensures

pub put_ends-requires : goal.put_ends-requires
put_ends-requires c = ends-ready c.requires.ranges_ready c.prepare-query.ensures c.frame_of-f.ensures

pub returns : goal.returns
returns c =
    let h = c.put_ends.ensures in
    ranges-held c.requires.ranges_ready c.prepare-query.ensures c.frame_of-f.ensures h.0 h.1 h.2
