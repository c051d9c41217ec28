-- `tell_runs`. A turn tells one run more.
use Rattle.meaning_numbers.proofs.Prelude.{arith, rules}
use Rattle.text_event.specs.Event.{none, one}
use Rattle.text_event.proofs.EventLaws.{run_up}
use Rattle.text_judge.proofs.Events.{run_fits}
use Rattle.text_judge.proofs.tell_runs.Goals as goal

pub loop-q-init : goal.loop-q-init
loop-q-init c = (search rules, search rules, none)

pub loop-q-smaller : goal.loop-q-smaller
loop-q-smaller c =
    let p = c.in-Some.ensures in
    omega (arith, (run_up p.run).0, (run_up p.run).1, c.run_length-i.ensures)

pub loop-q-preserved : goal.loop-q-preserved
loop-q-preserved c =
    let p = c.in-Some.ensures in
    rw (c.tell_run-tally.ensures, c.run_left.ensures, c.run_right.ensures, c.run_length-i.ensures) (run_fits _ p.run c.loop-q.invariant.0, (run_up p.run).1, one c.loop-q.invariant.2 p.run)
