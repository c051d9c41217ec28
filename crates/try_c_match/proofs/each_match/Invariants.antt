-- `each_match`. The invariant: the answers so far are written.
use Rattle.meaning_numbers.proofs.Prelude.{rules, ◌≡◌, ap, ◌∙◌, ◌+◌, ◌-◌, ◌≤◌, ◌<◌, arith, length}
use Rattle.meaning_curves.proofs.Values.{AllIn}
use Rattle.values.specs.Sums.{AreSums}
use Rattle.distance_query.specs.Ready.{Ready}
use Rattle.try_c_distance.specs.{Fits.Fits, Outcome.Written}
use Rattle.try_c_distance.proofs.Laws.{written-more, written_all}
use Rattle.try_c_match.specs.Told.{MatchAt, wrapped}
use Rattle.try_c_match.proofs as own
use own.Matches.{told-wrapped}
use Rattle.try_c_match.proofs.each_match.Given as goal

abbrev pub invariant-loop-at : goal.invariant-loop-at
invariant-loop-at l = Fits l.s (length l.q) (length l.initial.out) × ((length l.room ≡ length l.q) × (length l.room ≡ length l.initial.room)) × ((length l.q < length l.row) × (length l.row ≡ length l.initial.row))
    × Written 0 (MatchAt l.kind l.s l.q l.l) l.at l.initial.out l.out × (l.at ≤ length l.s - length l.q → AreSums l.s l.at (length l.q) l.t.values l.t.squares) × (AllIn l.q × (l.l.scale ≤ 100)) × Ready l.kind l.q l.l.band l.curve l.low l.high l.query.values l.query.spread
