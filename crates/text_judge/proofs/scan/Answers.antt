-- `scan`. What each event does to what is known of the text.
use Rattle.meaning_numbers.proofs.Prelude.{◌≡◌, sym, ap, ◌∙◌, arith, w64, to_z, of_z, to_z-of_z, rules}
use Rattle.text_index.proofs.View.{kept-start}
use Rattle.text_event.proofs.EventLaws.{row_up, runs_up, run_up, value-up, closed-up}
use Rattle.text_judge.specs.Tally.{start_tally, tell_tally, shut_tally, kept_scanned}
use Rattle.text_judge.proofs as own
use own.Seen.{text-scanned, start_fits}
use own.Events.{scan_runs, scan-run, scan-row, scan-value, scan-closed, scan-refuse, scan-stop}
use Rattle.text_judge.proofs.scan.Goals as goal

pub loop-low-init : goal.loop-low-init
loop-low-init c = rw c.no_tally-t.ensures (kept-start tell_tally shut_tally start_tally _, start_fits)

pub tell_runs-w-requires : goal.tell_runs-w-requires
tell_runs-w-requires c =
    let low = c.in-Row.low in
    let high = c.in-Row.up in
    let e : to_z w64 (of_z w64 low) ≡ low = to_z-of_z w64 low (search rules) in
    let f : to_z w64 (of_z w64 high) ≡ high = to_z-of_z w64 high (search rules) in
    let y = scan-row _ c.loop-low.invariant low high _ _ _ (rw c.in-Row.is at c.next_event.ensures) (rw (e, f) at c.tell_row.ensures) in
    (y.1, y.0.inside)

pub loop-low-smaller-in-Row : goal.loop-low-smaller-in-Row
loop-low-smaller-in-Row c =
    let u = row_up (rw c.in-Row.is at c.next_event.ensures).1 in
    let v = runs_up c.tell_runs-w.ensures u.1 in
    omega (arith, u.0, u.1, v.0, v.1)

pub loop-low-preserved-in-Row : goal.loop-low-preserved-in-Row
loop-low-preserved-in-Row c =
    let low = c.in-Row.low in
    let high = c.in-Row.up in
    let e : to_z w64 (of_z w64 low) ≡ low = to_z-of_z w64 low (search rules) in
    let f : to_z w64 (of_z w64 high) ≡ high = to_z-of_z w64 high (search rules) in
    let y = scan-row _ c.loop-low.invariant low high _ _ _ (rw c.in-Row.is at c.next_event.ensures) (rw (e, f) at c.tell_row.ensures) in
    scan_runs _ c.tell_runs-w.ensures y

pub tell_runs-w-requires-in-Run : goal.tell_runs-w-requires-in-Run
tell_runs-w-requires-in-Run c =
    let y = scan-run _ c.loop-low.invariant _ _ _ (rw c.in-Run.is at c.next_event.ensures) c.tell_run.ensures in
    (y.1, y.0.inside)

pub loop-low-smaller-in-Run : goal.loop-low-smaller-in-Run
loop-low-smaller-in-Run c =
    let u = run_up (rw c.in-Run.is at c.next_event.ensures).1 in
    let v = runs_up c.tell_runs-w-in-Run.ensures u.1 in
    omega (arith, u.0, u.1, v.0, v.1)

pub loop-low-preserved-in-Run : goal.loop-low-preserved-in-Run
loop-low-preserved-in-Run c =
    let v = rw c.in-Run.is at c.next_event.ensures in
    let y = scan-run _ c.loop-low.invariant _ _ _ v c.tell_run.ensures in
    rw v.0 (scan_runs _ c.tell_runs-w-in-Run.ensures y)

pub loop-low-smaller-in-Value : goal.loop-low-smaller-in-Value
loop-low-smaller-in-Value c =
    let u = value-up (rw c.in-Value.is at c.next_event.ensures) in
    omega (arith, u.0, u.1)

pub loop-low-preserved-in-Value : goal.loop-low-preserved-in-Value
loop-low-preserved-in-Value c =
    let z = c.in-Value.z in
    let e : to_z w64 (of_z w64 z) ≡ z = to_z-of_z w64 z (search rules) in
    rw (rw e at c.tell-t.ensures) (scan-value _ c.loop-low.invariant c.in-Value.n c.in-Value.p z _ (rw c.in-Value.is at c.next_event.ensures))

pub loop-low-smaller : goal.loop-low-smaller
loop-low-smaller c =
    let u = closed-up (rw c.in-Closed.is at c.next_event.ensures) in
    omega (arith, u.0, u.1)

pub loop-low-preserved : goal.loop-low-preserved
loop-low-preserved c = rw c.shut-t.ensures (scan-closed _ c.loop-low.invariant c.in-Closed.n _ (rw c.in-Closed.is at c.next_event.ensures))

pub returns-in-Refuse : goal.returns-in-Refuse
returns-in-Refuse c = sym (ap kept_scanned (scan-refuse _ c.loop-low.invariant c.in-Refuse.field-0 _ (rw c.in-Refuse.is at c.next_event.ensures))) ∙ text-scanned _

pub returns-in-End : goal.returns-in-End
returns-in-End c = c.scan_end.ensures ∙ sym (ap kept_scanned (scan-stop _ c.loop-low.invariant c.in-End.n _ (rw c.in-End.is at c.next_event.ensures))) ∙ text-scanned _
