-- `curve_straight`: what `straight` requires was tested. The invariant: the numbers so far are written.
use Rattle.meaning_numbers.proofs.Prelude.{rules, not-true, not-false, ◌≡◌, refl, ◌+◌, ◌-◌, ◌≤◌, arith, length}
use Rattle.meaning_curves.proofs.Values.{AllIn}
use Rattle.try_c_distance.specs.{Fits.Fits, Outcome.Written, Told.StraightAt}
use Rattle.try_c_distance.proofs as own
use own.Laws.{written_none, written-more, written_all, outcome-yes, outcome-no}
use Rattle.try_c_distance.proofs.curve_straight.Given as goal

abbrev pub invariant-loop-at : goal.invariant-loop-at
invariant-loop-at l = Fits l.s (length l.q) (length l.initial.out) × AllIn l.q × Written 0 (StraightAt l.s l.q l.limit) l.at l.initial.out l.out
