-- `warped_in`: what the envelope bound passes, the distance passes (`bound-le`).
use Rattle.meaning_numbers.specs.Sum.{Σℕ}
use Rattle.meaning_numbers.proofs.Prelude.{rules, ℕ, ◌≤◌, arith, length, ℤ}
use Rattle.meaning_curves.specs.{Curve.at, Curve.stretch, Table.warped}
use Rattle.meaning_curves.proofs.Straight.{distance_is}
use Rattle.meaning_filter.proofs.Bound.{apart}
use Rattle.numbers.specs.Within.{Within}
use Rattle.numbers.proofs.Within.{within-above}
use Rattle.distance_envelope.proofs.EnvelopeLaws.{low-in, high-in}
use Rattle.distance_warped.proofs as own
use own.Rest.{bound-le}
use Rattle.distance_warped.proofs.warped_in.Goals as goal

pub envelope_bound-bound-requires-clause-all_in : goal.envelope_bound-bound-requires-clause-all_in
envelope_bound-bound-requires-clause-all_in c = (c.requires.all_in.0, low-in c.requires.all_in.1 c.requires.envelopes, high-in c.requires.all_in.1 c.requires.envelopes)

module _ (c : goal.Then-limit-bound) where
  abbrev S : ℕ → ℤ
  S = stretch c.args.s.now c.args.from

  abbrev m : ℕ
  m = length c.args.q.now

  told : Within (Σℕ m (apart S (at c.args.low.now) (at c.args.high.now))) c.args.limit c.envelope_bound-bound.result
  told = rw c.requires.envelopes.below.long at c.envelope_bound-bound.ensures

  under : Σℕ m (apart S (at c.args.low.now) (at c.args.high.now)) ≤ warped S (at c.args.q.now) c.args.b m
  under = rw (distance_is S _ _ m c.requires.q_nonzero.0) at (bound-le S c.requires.envelopes c.requires.q_nonzero.0)

pub returns-then-limit-bound : goal.returns-then-limit-bound
returns-then-limit-bound c = record { exact = λ h. absurd (omega (arith, within-above (told c) c.if-limit-bound.true, under c)); above = search rules }
