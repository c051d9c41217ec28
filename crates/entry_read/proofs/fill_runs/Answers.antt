-- `fill_runs`. An event of the text: what it says is stored, and the columns stay a view of what has been said.
use mir.Syntax.{w64}
use mir.Val.{SFits}
use mir.ValLaws.{to_z-of_z}
use borrow.Author.Rules.{rules}
use native.Mathlib.Omega.{arith}
use Rattle.text_index.specs.declared.Field.{Field}
use Rattle.text_event.proofs.EventLaws.{row_up, run_up, runs_up, value-up, closed-up}
use Rattle.entry_read.proofs.Columns.{filling-start, filling-run, filling-row, filling-runs, filling-value, filling-other, filling-closed, filling-refuse, filling-end}
use Rattle.entry_read.proofs.fill_runs.Goals as goal

pub loop-a-init : goal.loop-a-init
loop-a-init c = filling-start _ _ _

pub next_event-requires : goal.next_event-requires
next_event-requires c = c.loop-a.invariant.kept.good

pub put_runs-w-requires : goal.put_runs-w-requires
put_runs-w-requires c = let u = row_up c.in-Row.ensures.1 in (omega (arith, u.0, c.loop-a.invariant.count), u.1)

pub loop-a-smaller-in-Row : goal.loop-a-smaller-in-Row
loop-a-smaller-in-Row c = let u = row_up c.in-Row.ensures.1 in let v = runs_up c.put_runs-w.ensures u.1 in omega (arith, u.0, u.1, v.0, v.1)

pub loop-a-preserved-in-Row : goal.loop-a-preserved-in-Row
loop-a-preserved-in-Row c =
    filling-runs _ _ _ c.put_runs-w.ensures (filling-row _ _ _ c.loop-a.invariant _ _ _ _ _ (search rules) (search rules) c.in-Row.ensures)

pub put_runs-w-requires-in-Run : goal.put_runs-w-requires-in-Run
put_runs-w-requires-in-Run c = let u = run_up c.in-Run.ensures.1 in (omega (arith, u.0, c.loop-a.invariant.count), u.1)

pub loop-a-smaller-in-Run : goal.loop-a-smaller-in-Run
loop-a-smaller-in-Run c = let u = run_up c.in-Run.ensures.1 in let v = runs_up c.put_runs-w-in-Run.ensures u.1 in omega (arith, u.0, u.1, v.0, v.1)

pub loop-a-preserved-in-Run : goal.loop-a-preserved-in-Run
loop-a-preserved-in-Run c =
    rw c.in-Run.ensures.0
    (filling-runs _ _ _ c.put_runs-w-in-Run.ensures (filling-run _ _ _ c.loop-a.invariant _ _ _ (search rules) (search rules) c.in-Run.ensures))

pub overflow_add-k : goal.overflow_add-k
overflow_add-k c = omega (arith, c.loop-a.invariant.count, c.loop-a.invariant.kept.inside)

pub loop-a-smaller-in-Left : goal.loop-a-smaller-in-Left
loop-a-smaller-in-Left c = let u = value-up c.in-Value.ensures in omega (arith, u.0, u.1)

pub loop-a-preserved-in-Left : goal.loop-a-preserved-in-Left
loop-a-preserved-in-Left c =
    let z = c.in-Value.z in
    let fits : SFits w64 z = search rules in
    rw (c.hold-l.ensures, to_z-of_z w64 z fits)
    (filling-value _ _ _ c.loop-a.invariant _ Field.Left z _ (rw c.in-Left.is at c.in-Value.ensures))

pub loop-a-smaller-in-Right : goal.loop-a-smaller-in-Right
loop-a-smaller-in-Right c = let u = value-up c.in-Value.ensures in omega (arith, u.0, u.1)

pub loop-a-preserved-in-Right : goal.loop-a-preserved-in-Right
loop-a-preserved-in-Right c =
    let z = c.in-Value.z in
    let fits : SFits w64 z = search rules in
    rw (c.put.ensures, c.put-in-Right.ensures, c.hold.ensures, to_z-of_z w64 z fits)
    (filling-value _ _ _ c.loop-a.invariant _ Field.Right z _ (rw c.in-Right.is at c.in-Value.ensures))

pub loop-a-smaller-in_default : goal.loop-a-smaller-in_default
loop-a-smaller-in_default c = let u = value-up c.in-Value.ensures in omega (arith, u.0, u.1)

pub loop-a-preserved-in_default : goal.loop-a-preserved-in_default
loop-a-preserved-in_default c = filling-other _ _ _ c.loop-a.invariant _ _ _ _ c.in_default.not-Left c.in_default.not-Right c.in-Value.ensures

pub loop-a-smaller : goal.loop-a-smaller
loop-a-smaller c = let u = closed-up c.in-Closed.ensures in omega (arith, u.0, u.1)

pub loop-a-preserved : goal.loop-a-preserved
loop-a-preserved c = filling-closed _ _ _ c.loop-a.invariant c.in-Closed.n _ c.in-Closed.ensures

pub returns-in-Refuse : goal.returns-in-Refuse
returns-in-Refuse c = filling-refuse _ _ _ c.loop-a.invariant c.in-Refuse.field-0 _ c.in-Refuse.ensures

pub returns-in-End : goal.returns-in-End
returns-in-End c = filling-end _ _ _ c.loop-a.invariant c.in-End.field-0 _ c.in-End.ensures
