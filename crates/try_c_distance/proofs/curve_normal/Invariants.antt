-- `curve_normal`. The invariant: the spreads so far are written, and room holds the last normalised values.
use Rattle.meaning_numbers.proofs.Prelude.{rules, not-true, not-false, ◌≡◌, refl, ◌∙◌, ◌+◌, ◌-◌, ◌≤◌, arith, length}
use Rattle.values.specs.Sums.{AreSums}
use Rattle.try_c_distance.specs.{Fits.Fits, Outcome.Written, Told.LastNormal, Told.SpreadAt}
use Rattle.try_c_distance.proofs as own
use own.Laws.{written_none, written-more, written_all, outcome-yes, outcome-no, normal-none, normal-next, normal-all}
use Rattle.try_c_distance.proofs.curve_normal.Given as goal

abbrev pub invariant-loop-at : goal.invariant-loop-at
invariant-loop-at l = Fits l.s (length l.initial.room) (length l.initial.out) × (length l.room ≡ length l.initial.room)
    × (l.at ≤ length l.s - length l.initial.room → AreSums l.s l.at (length l.initial.room) l.t.values l.t.squares) × LastNormal l.s (length l.initial.room) l.at l.initial.room l.room × Written 0 (SpreadAt l.s (length l.initial.room)) l.at l.initial.out l.out
