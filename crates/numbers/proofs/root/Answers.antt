use Rattle.meaning_numbers.proofs.Root.{sq-le, root-only, root_is}
use Rattle.meaning_numbers.proofs.Prelude.{◌≡◌, ◌+◌, ◌-◌, ◌/◌, arith}
use Rattle.numbers.proofs.root.Goals as goal
use Rattle.numbers.proofs.root.Goals.{then-t-y, else-t-y}

pub loop-width-preserved : goal.loop-width-preserved
loop-width-preserved c =
    let r = c.loop-width.r in
    let w = c.loop-width.width in
    let e : r + w / 2 + (w - w / 2) ≡ r + w = omega arith in
    elim c.if-t-y.branch [
      | then-t-y k ↦ rw k.r-is (omega arith, rw e (omega arith), omega arith, omega arith)
      | else-t-y k ↦ rw k.r-is (omega arith, omega (arith, sq-le {x = r + w / 2} {y = r + (w - w / 2)} (omega arith)), omega arith, omega arith)
    ]

pub returns : goal.returns
returns c =
    let e : c.loop-width.width ≡ 1 = omega arith in
    root-only (record { low = omega arith; high = rw e at c.loop-width.invariant.1 }) (root_is _)
