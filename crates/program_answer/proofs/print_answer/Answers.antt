-- `print_answer`: the build, its text and the list behind it (`prints`).
use Rattle.meaning_numbers.proofs.Prelude.{rules, ℕ, ◌≡◌, length, replicate, length-take, length-replicate, arith, ◌∙◌}
use Rattle.meaning_rows.specs.Index.{zero_row}
use Rattle.program_answer.proofs as own
use own.Whole.{count-is, not-refused, rows_few, runs-few, prints}
use Rattle.program_answer.proofs.print_answer.Goals as goal

zeros : length (replicate {A = ℕ} 4096 0) ≡ 4096
zeros = length-replicate {A = ℕ} 4096 0

pub slice_bounds-rows-end : goal.slice_bounds-rows-end
slice_bounds-rows-end c = omega (arith, rows_few _ _ _ c.requires.0 _ _ _ (length-replicate 4096 zero_row) zeros zeros _ _ _ _ c.build-made.ensures c.in-Ok.is)

pub slice_bounds-rows-end-in-Ok : goal.slice_bounds-rows-end-in-Ok
slice_bounds-rows-end-in-Ok c = simp length-take (omega (arith, rows_few _ _ _ c.requires.0 _ _ _ (length-replicate 4096 zero_row) zeros zeros _ _ _ _ c.build-made.ensures c.in-Ok.is))

pub slice_bounds-left-end : goal.slice_bounds-left-end
slice_bounds-left-end c = omega (arith, runs-few _ _ _ c.requires.0 _ _ _ (length-replicate 4096 zero_row) zeros zeros _ _ _ _ c.build-made.ensures c.in-Ok.is)

pub slice_bounds-left-end-in-Ok : goal.slice_bounds-left-end-in-Ok
slice_bounds-left-end-in-Ok c = simp length-take (omega (arith, runs-few _ _ _ c.requires.0 _ _ _ (length-replicate 4096 zero_row) zeros zeros _ _ _ _ c.build-made.ensures c.in-Ok.is))

pub slice_bounds-right-end : goal.slice_bounds-right-end
slice_bounds-right-end c = omega (arith, runs-few _ _ _ c.requires.0 _ _ _ (length-replicate 4096 zero_row) zeros zeros _ _ _ _ c.build-made.ensures c.in-Ok.is)

pub slice_bounds-right-end-in-Ok : goal.slice_bounds-right-end-in-Ok
slice_bounds-right-end-in-Ok c = simp length-take (omega (arith, runs-few _ _ _ c.requires.0 _ _ _ (length-replicate 4096 zero_row) zeros zeros _ _ _ _ c.build-made.ensures c.in-Ok.is))

pub returns-in-Err : goal.returns-in-Err
returns-in-Err c = not-refused _ _ _ c.requires.0 _ _ _ (length-replicate 4096 zero_row) zeros zeros _ _ _ _ c.build-made.ensures c.in-Err.is

pub returns-in-Ok : goal.returns-in-Ok
returns-in-Ok c =
    prints _ _ _ c.requires.0 _ _ _ (length-replicate 4096 zero_row) zeros zeros _ _ _ _ c.build-made.ensures c.in-Ok.is c.requires.2 _ _ _ _ _ c.requires.1 c.write.ensures
    (rw (c.unwrap_or-at.ensures ∙ count-is c.write.result) at c.list_matches.ensures)
