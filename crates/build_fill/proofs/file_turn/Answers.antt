-- `file_turn` meets its contract.
use Rattle.meaning_numbers.proofs.Prelude.{rules, ◌≡◌, ap, ◌∙◌, List, ℕ, ◌+◌, ◌*◌, ℤ, w32, to_z, of_z, to_z-of_z, zmach32}
use Rattle.meaning_curves.specs.Curve.{window_sum}
use Rattle.meaning_rows.specs.{declared.Row.Row, Range.inside}
use Rattle.sums_slide.specs.{Levels.level, Levels.Lent, Levels.windows_of, Change.Change, Change.Stop, Ends.raised_end}
use Rattle.build_fill.specs.Turn.{Small}
use Rattle.build_fill.proofs as own
use own.Turn.{stop-held, change-held}
use Rattle.build_fill.proofs.file_turn.Goals as goal

-- an end of a small range, as the machine reads it
low_read : (r : Row) → Small r → to_z w32 (of_z w32 r.low) ≡ r.low
low_read r h = to_z-of_z w32 r.low (omega zmach32)

up-read : (r : Row) → Small r → to_z w32 (of_z w32 r.up) ≡ r.up
up-read r h = to_z-of_z w32 r.up (omega zmach32)

-- where the run ends, once it is found
ends : {s : List ℤ} {w e from k z lo hi : ℕ} (r : Row) → Small r → Lent s w e → lo ≡ raised_end (10000 * w + e) (to_z w32 (of_z w32 r.low)) → hi ≡ raised_end (10000 * w + e) (to_z w32 (of_z w32 r.up))
    → Stop (level s w e) (windows_of s w) lo hi from k z → Change (λ j. inside r.low r.up (window_sum s w j)) from (windows_of s w) k
ends {w = w} {e = e} r m h p q t = stop-held r.low r.up h (p ∙ ap (raised_end (10000 * w + e)) (low_read r m)) (q ∙ ap (raised_end (10000 * w + e)) (up-read r m)) t

pub file_run-requires-clause-from_lt_next : goal.file_run-requires-clause-from_lt_next
file_run-requires-clause-from_lt_next c =
    let h = c.requires in
    (change-held h.below h.held (ends c.args.r h.small h.place.lent c.raise_end-lo.ensures c.raise_end-hi.ensures c.next_out-next.ensures), search rules)

pub returns : goal.returns
returns c =
    record {
      change = ends c.args.r c.requires.small c.requires.place.lent c.raise_end-lo.ensures c.raise_end-hi.ensures c.next_out-next.ensures;
      sum = search rules;
      left_is = search rules;
      right_is = search rules;
    }
