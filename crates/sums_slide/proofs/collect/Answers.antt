use Rattle.sums_slide.proofs as own
use own.Marks.{collect-room, collect-yes, collect-no}
use own.Picked.{append-none, picked-start}
use Rattle.sums_slide.proofs.collect.Goals as goal
use Rattle.sums_slide.proofs.collect.Goals.{then-flag-ne0, else-flag-ne0}

pub loop-x-init : goal.loop-x-init
loop-x-init c = rw picked-start (append-none c.args.k _)

pub bounds-out-n : goal.bounds-out-n
bounds-out-n c = let a = c.args in collect-room a.flags.now a.base c.loop-x.x c.loop-x-test.true c.loop-x.invariant c.if-flag-ne0.true c.requires.flags_in_bounds

pub loop-x-preserved : goal.loop-x-preserved
loop-x-preserved c =
    let a = c.args in
    elim c.if-flag-ne0.branch [
      | then-flag-ne0 w ↦ rw (w.out-is, w.n-is) (collect-yes _ a.base c.loop-x.x c.loop-x-test.true c.loop-x.invariant w.if-flag-ne0.true (collect-room a.flags.now a.base c.loop-x.x c.loop-x-test.true c.loop-x.invariant w.if-flag-ne0.true c.requires.flags_in_bounds))
      | else-flag-ne0 w ↦ rw (w.out-is, w.n-is) (collect-no _ a.base c.loop-x.x c.loop-x-test.true c.loop-x.invariant w.if-flag-ne0.false)
    ]
