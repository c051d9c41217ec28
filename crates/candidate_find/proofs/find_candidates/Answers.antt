-- `find_candidates`: a plan that refuses leaves the buffers as they were (`halts`, which the check is given); else the candidates are gathered (`went`).
use Rattle.meaning_entries.specs.Search.{search_buffers}
use Rattle.candidate_find.proofs.Looks.{goes, went}
use Rattle.candidate_find.proofs.find_candidates.Goals as goal

pub gather-requires : goal.gather-requires
gather-requires c =
    let a = c.args in
    goes a.series.now a.head a.rows.now a.left.now a.right.now a.ask a.query.now (search_buffers a.first.now a.last.now a.scratch.now a.offsets.now a.distances.now) c.judge-judged.ensures c.plan_search-plan.ensures c.in_ok-plan.was

pub returns : goal.returns
returns c =
    let a = c.args in
    went a.series.now a.head a.rows.now a.left.now a.right.now a.ask a.query.now (search_buffers a.first.now a.last.now a.scratch.now a.offsets.now a.distances.now) c.judge-judged.ensures c.plan_search-plan.ensures c.in_ok-plan.was c.gather.ensures
