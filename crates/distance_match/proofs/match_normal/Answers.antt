-- `match_normal`: where a cheap test fails the stretch does not match (`unlike-matched`), else the distance decides (`alike-matched`).
use Rattle.meaning_numbers.proofs.Prelude.{◌∙◌, ap, ℕ, length}
use Rattle.meaning_curves.specs.Curve.{at, stretch}
use Rattle.meaning_curves.proofs.Same.{distance-same}
use Rattle.values.proofs.SumsLaws.{spread-bound}
use Rattle.distance_within.specs.Answer.{nearness}
use Rattle.distance_within.proofs.Room.{same_self}
use Rattle.distance_match.proofs as own
use own.AlikeLaws.{alike-matched, unlike-matched}
use own.Shift.{shift-raised, spread-limit}
use Rattle.distance_match.proofs.match_normal.Goals as goal

pub alike-requires-clause-a_bound : goal.alike-requires-clause-a_bound
alike-requires-clause-a_bound c = let r = c.requires in rw c.spread_of-a.ensures (spread-bound r.all_in.0 r.are_sums r.q_nonzero.1)

pub alike-requires-clause-spread_bound : goal.alike-requires-clause-spread_bound
alike-requires-clause-spread_bound c = let r = c.requires in rw r.ready.spread (spread-limit (length c.args.q.now) r.all_in.1 r.q_nonzero.1)

pub returns-then-not-alike : goal.returns-then-not-alike
returns-then-not-alike c =
    let r = c.requires in
    let m = length c.args.q.now in
    let shift = shift-raised c.args.from m r.all_in.0 r.all_in.1 r.are_sums.values r.ready.values in
    unlike-matched (stretch c.args.s.now c.args.from) (at c.args.q.now) m _ c.spread_of-a.ensures r.ready.spread shift (c.alike.ensures.no c.if-not-alike.true)

pub returns : goal.returns
returns c =
    let r = c.requires in
    let m = length c.args.q.now in
    let l = c.args.l in
    let shift = shift-raised c.args.from m r.all_in.0 r.all_in.1 r.are_sums.values r.ready.values in
    rw r.ready.curve-is.long at c.compare_normal.ensures
    ∙ ap (λ (x : ℕ). nearness x l.threshold) (distance-same _ r.q_nonzero.0 (same_self m _) r.ready.curve-is.same)
    ∙ alike-matched (stretch c.args.s.now c.args.from) (at c.args.q.now) m l c.spread_of-a.ensures r.ready.spread shift (c.alike.ensures.yes c.if-not-alike.false)
