-- `row_from`. An event of the text: what it says is told, and what is left of the text comes to the same line.
use mir.Val.{SFits}
use Rattle.meaning_numbers.proofs.Prelude.{rules, ◌∙◌, w64, to_z-of_z, arith}
use Rattle.text_event.proofs.EventLaws.{row_up, runs_up, run_up, value-up}
use Rattle.text_rows.proofs.Turn.{line-run, line_row, line-runs, line-value, line-closed, line-refuse, line-stop}
use Rattle.text_rows.proofs.row_from.Goals as goal

pub tell_runs-w-requires : goal.tell_runs-w-requires
tell_runs-w-requires c =
    let low = c.in-Row.low in
    let up = c.in-Row.up in
    let low_fits : SFits w64 low = search rules in
    let up_fits : SFits w64 up = search rules in
    let y = line_row _ _ _ _ c.loop-low.invariant low up _ _ _ c.in-Row.ensures (rw (to_z-of_z w64 low low_fits, to_z-of_z w64 up up_fits) at c.tell_row.ensures) in
    (y.fits, y.inside)

pub loop-low-smaller-in-Row : goal.loop-low-smaller-in-Row
loop-low-smaller-in-Row c = let u = row_up c.in-Row.ensures.1 in let v = runs_up c.tell_runs-w.ensures u.1 in omega (arith, u.0, u.1, v.0, v.1)

pub loop-low-preserved-in-Row : goal.loop-low-preserved-in-Row
loop-low-preserved-in-Row c =
    let low = c.in-Row.low in
    let up = c.in-Row.up in
    let low_fits : SFits w64 low = search rules in
    let up_fits : SFits w64 up = search rules in
    let y = line_row _ _ _ _ c.loop-low.invariant low up _ _ _ c.in-Row.ensures (rw (to_z-of_z w64 low low_fits, to_z-of_z w64 up up_fits) at c.tell_row.ensures) in
    line-runs _ _ _ _ c.tell_runs-w.ensures y

pub tell_runs-w-requires-in-Run : goal.tell_runs-w-requires-in-Run
tell_runs-w-requires-in-Run c = let y = line-run _ _ _ _ c.loop-low.invariant _ _ _ c.in-Run.ensures c.tell_run.ensures in (y.fits, y.inside)

pub loop-low-smaller-in-Run : goal.loop-low-smaller-in-Run
loop-low-smaller-in-Run c = let u = run_up c.in-Run.ensures.1 in let v = runs_up c.tell_runs-w-in-Run.ensures u.1 in omega (arith, u.0, u.1, v.0, v.1)

pub loop-low-preserved-in-Run : goal.loop-low-preserved-in-Run
loop-low-preserved-in-Run c =
    let y = line-run _ _ _ _ c.loop-low.invariant _ _ _ c.in-Run.ensures c.tell_run.ensures in
    rw c.in-Run.ensures.0 (line-runs _ _ _ _ c.tell_runs-w-in-Run.ensures y)

pub loop-low-smaller : goal.loop-low-smaller
loop-low-smaller c = let u = value-up c.in-Value.ensures in omega (arith, u.0, u.1)

pub loop-low-preserved : goal.loop-low-preserved
loop-low-preserved c =
    let z = c.in-Value.z in
    let fits : SFits w64 z = search rules in
    rw (rw (to_z-of_z w64 z fits) at c.tell-tally.ensures) (line-value _ _ _ _ c.loop-low.invariant c.in-Value.n c.in-Value.q z _ c.in-Value.ensures)

pub returns-in-Closed : goal.returns-in-Closed
returns-in-Closed c = rw (c.shut.ensures, c.make_row.ensures) (line-closed _ _ _ _ c.loop-low.invariant c.in-Closed.n _ c.in-Closed.ensures)

pub returns-in-Refuse : goal.returns-in-Refuse
returns-in-Refuse c = c.line_end.ensures ∙ line-refuse _ _ _ _ c.loop-low.invariant c.in-Refuse.n _ c.in-Refuse.ensures

pub returns-in-End : goal.returns-in-End
returns-in-End c = c.line_end-in-End.ensures ∙ line-stop _ _ _ _ c.loop-low.invariant c.in-End.n _ c.in-End.ensures
