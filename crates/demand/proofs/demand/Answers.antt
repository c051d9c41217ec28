-- `demand`: both indexes are audited, each against its own part, the series is searched through both for all matches, and what they come to is told (`demand3-kept`).
use mathlib.Core.Path.{refl}
use Rattle.meaning_rows.specs.Index.{lent}
use Rattle.meaning_filter.specs.declared.Pick.{Pick}
use Rattle.meaning_entries.specs.Search.{lent_search, search_buffers, picking}
use Rattle.meaning_entries.proofs.BothKept.{demand3-kept}
use Rattle.demand.proofs.demand.Goals as goal

pub returns : goal.returns
returns c =
    let a = c.args in
    let s = c.search-found1 in
    let t = c.search-found2 in
    rw c.tell.ensures
    (demand3-kept (lent_search a.series.now a.head1 a.rows1.now a.left1.now a.right1.now (picking Pick.All a.ask) a.query.now) (lent a.head2 a.rows2.now a.left2.now a.right2.now)
    (search_buffers a.first1.now a.last1.now a.scratch1.now a.offsets1.now a.distances1.now) (search_buffers a.first2.now a.last2.now a.scratch2.now a.offsets2.now a.distances2.now)
    (search_buffers s.new.first s.new.last s.new.scratch s.new.offsets s.new.distances) (search_buffers t.new.first t.new.last t.new.scratch t.new.offsets t.new.distances)
    refl c.audit_covered-one.result c.audit_covered-two.result s.result t.result c.audit_covered-one.ensures c.audit_covered-two.ensures (rw c.pick_all-whole.ensures at s.ensures) (rw c.pick_all-whole.ensures at t.ensures))
