-- `put_runs`. A run more is stored behind the others, and the text is read on behind it.
use lib.ListN.{length-set}
use mathlib.Core.Path.{refl, ◌∙◌}
use native.Mathlib.Omega.{arith}
use Rattle.text_event.specs.Event.{none, one, left_of, right_of}
use Rattle.text_event.proofs.EventLaws.{run_up}
use Rattle.entry_read.specs.Runs.{Columns}
use Rattle.entry_read.proofs.Columns.{run-stored}
use Rattle.entry_read.proofs.put_runs.Goals as goal

pub loop-q-init : goal.loop-q-init
loop-q-init c = (omega arith, c.requires.1, none, refl, refl)

pub returns : goal.returns
returns c = rw (c.put.ensures, c.put-2.ensures) at c.loop-q.invariant.2

pub loop-q-smaller : goal.loop-q-smaller
loop-q-smaller c = let p = c.in-Some.ensures in omega (arith, (run_up p.run).0, (run_up p.run).1, c.run_length-i.ensures)

pub loop-q-preserved : goal.loop-q-preserved
loop-q-preserved c =
    let q = c.in-Some.q in
    let p = c.in-Some.ensures in
    let t : Columns = record { left = c.loop-q.last; count = c.loop-q.n; lefts = c.loop-q.left; rights = c.loop-q.right } in
    rw (c.put-in-Some.ensures, c.put-in-Some-2.ensures, c.run_left-last.ensures, c.run_right.ensures, c.run_length-i.ensures)
    (omega (arith, (run_up p.run).0, c.loop-q.invariant.0), (run_up p.run).1, rw (run-stored (left_of q) (right_of q) t (omega arith) (omega arith)) at (one c.loop-q.invariant.2 p.run), length-set c.loop-q.left c.loop-q.n (left_of q) ∙ c.loop-q.invariant.3, length-set c.loop-q.right c.loop-q.n (right_of q) ∙ c.loop-q.invariant.4)
