-- `compare_normal`: what the envelope bound passes, the distance passes (`bound-le`); else what stands in the room are the normalised values, and the distance asks for no others (`distance-same`).
use Rattle.meaning_numbers.proofs.Prelude.{◌∙◌, ◌<◌, arith, length}
use Rattle.meaning_curves.specs.{Curve.stretch, Curve.spread, Normal.normalised}
use Rattle.meaning_curves.proofs.Same.{distance-same}
use Rattle.numbers.proofs.Within.{within-above}
use Rattle.distance_normal.proofs.Stretch.{normalised-in}
use Rattle.distance_envelope.proofs.EnvelopeLaws.{low-in, high-in}
use Rattle.distance_warped.proofs.Rest.{bound-le}
use Rattle.distance_within.proofs as own
use own.{Answer.no_answer, Room.normal-room, Room.same_self}
use Rattle.distance_within.proofs.compare_normal.Goals as goal

pub normalise_within-bound-requires-clause-all_in : goal.normalise_within-bound-requires-clause-all_in
normalise_within-bound-requires-clause-all_in c =
    let e = c.requires.envelopes in
    let q = c.requires.curve_nonzero.1 in
    (low-in q e, high-in q e)

pub returns-then-threshold-bound : goal.returns-then-threshold-bound
returns-then-threshold-bound c =
    let S = normalised (stretch c.args.s.now c.args.from) (length c.args.curve.now) in
    let w = rw c.requires.room_fits.0 at c.normalise_within-bound.ensures in
    no_answer {E = c.args.threshold} (omega (arith, within-above w.bound c.if-threshold-bound.true, bound-le S c.requires.envelopes c.requires.curve_nonzero.0))

pub compare-requires-clause-all_in : goal.compare-requires-clause-all_in
compare-requires-clause-all_in c =
    let r = c.requires in
    let some : 0 < spread (stretch c.args.s.now c.args.from) (length c.args.curve.now) = omega (arith, r.normal_ready.spread-is, r.normal_ready.some) in
    let w = rw r.room_fits.0 at c.normalise_within-bound.ensures in
    (normalised-in some r.normal_ready.short (w.made c.if-threshold-bound.false), r.curve_nonzero.1)

pub returns : goal.returns
returns c =
    let w = rw c.requires.room_fits.0 at c.normalise_within-bound.ensures in
    c.compare.ensures
    ∙ rw (distance-same _ c.requires.curve_nonzero.0 (normal-room (w.made c.if-threshold-bound.false)) (same_self (length c.args.curve.now) _))
