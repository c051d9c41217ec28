-- `curve_windows`. The invariant: the sums and rows so far are written, and the next sum is at hand.
use Rattle.meaning_numbers.proofs.Prelude.{rules, not-true, not-false, ◌≡◌, refl, ap, ◌∙◌, ◌+◌, ◌-◌, ◌≤◌, arith, pos, length, w32, to_z, to_z-of_z}
use Rattle.meaning_curves.specs.Curve.{window_sum}
use Rattle.meaning_rows.specs.Range.{row_number}
use Rattle.try_c_distance.specs.{Fits.Fits, Outcome.Written}
use Rattle.try_c_distance.proofs.Laws.{written_none, written-more, written_all, outcome-yes, outcome-no}
use Rattle.try_c_match.specs.Told.{SumAt, RowAt}
use Rattle.try_c_match.proofs.curve_windows.Given as goal

abbrev pub invariant-loop-at : goal.invariant-loop-at
invariant-loop-at l = ((l.w ≤ 256) × (length l.initial.rows ≡ length l.initial.sums) × Fits l.s l.w (length l.initial.sums))
    × (l.at ≤ length l.s - l.w → l.sum ≡ window_sum l.s l.w l.at) × Written (pos 0) (SumAt l.s l.w) l.at l.initial.sums l.sums × Written (pos 0) (RowAt l.s l.w l.d) l.at l.initial.rows l.rows
