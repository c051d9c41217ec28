-- `each_warped`. The invariant: the numbers so far are written.
use Rattle.meaning_numbers.proofs.Prelude.{◌≡◌, refl, ◌∙◌, sym, ◌+◌, ◌-◌, ◌≤◌, arith, length}
use Rattle.meaning_curves.proofs.Values.{AllIn}
use Rattle.distance_envelope.specs.Envelope.{Envelopes}
use Rattle.try_c_distance.specs.{Fits.Fits, Outcome.Written, Told.WarpedAt}
use Rattle.try_c_distance.proofs as own
use own.Laws.{written_none, written-more, written_all}
use Rattle.try_c_distance.proofs.each_warped.Given as goal

abbrev pub invariant-loop-at : goal.invariant-loop-at
invariant-loop-at l = Fits l.s (length l.q) (length l.initial.out) × AllIn l.q × Written 0 (WarpedAt l.s l.q l.b l.limit) l.at l.initial.out l.out × (length l.row ≡ 1025) × Envelopes l.q (length l.q) l.b l.low l.high
