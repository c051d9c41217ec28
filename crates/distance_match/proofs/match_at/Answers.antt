-- `match_at`, by the kind: of a raw query the distance decides (`raw-matched`).
use Rattle.meaning_numbers.proofs.Prelude.{◌≡◌, ◌∙◌, ap, ℕ, ℤ, length}
use Rattle.meaning_curves.specs.Curve.{stretch}
use Rattle.meaning_curves.proofs.Same.{distance-same}
use Rattle.meaning_filter.specs.declared.Kind.TheVariants.{Raw}
use Rattle.distance_query.specs.Ready.{Ready}
use Rattle.distance_within.specs.Answer.{nearness}
use Rattle.distance_within.proofs.Room.{same_self}
use Rattle.distance_match.proofs as own
use own.{Matched.raw-matched, Shift.of-kind}
use Rattle.distance_match.proofs.match_at.Goals as goal

-- of a raw query
module _ (e : goal.After-slice_known-in-Raw-1) where
  raw : e.args.kind ≡ Raw
  raw = e.in-Raw.is

  ready : Ready Raw e.args.q.now e.args.l.band e.args.curve.now e.args.low.now e.args.high.now e.args.query.values e.args.query.spread
  ready = of-kind raw e.requires.ready

  abbrev S : ℕ → ℤ
  S = stretch e.args.s.now e.args.from

  abbrev m : ℕ
  m = length e.args.q.now

pub returns-in-Raw : goal.returns-in-Raw
returns-in-Raw c =
    let a = c.args in
    rw (raw c)
    (rw (ready c).curve-is.long at c.compare.ensures
    ∙ ap (λ (d : ℕ). nearness d a.l.threshold) (distance-same _ c.requires.q_nonzero.0 (same_self (m c) (S c)) (ready c).curve-is.same)
    ∙ raw-matched (S c) _ (m c) a.l)
