-- `curve_bound`: what `envelope_bound` requires was tested. The invariant: the numbers so far are written.
use Rattle.meaning_numbers.proofs.Prelude.{rules, not-true, not-false, ◌≡◌, refl, sym, ◌+◌, ◌-◌, ◌≤◌, arith, length}
use Rattle.meaning_curves.proofs.Values.{AllIn}
use Rattle.try_c_distance.specs.{Fits.Fits, Outcome.Written, Told.BoundAt}
use Rattle.try_c_distance.proofs as own
use own.Laws.{written_none, written-more, written_all, outcome-yes, outcome-no}
use Rattle.try_c_distance.proofs.curve_bound.Given as goal

abbrev pub invariant-loop-at : goal.invariant-loop-at
invariant-loop-at l = ((length l.high ≡ length l.low) × Fits l.s (length l.low) (length l.initial.out) × AllIn l.low × AllIn l.high) × Written 0 (BoundAt l.s l.low l.high l.limit) l.at l.initial.out l.out
