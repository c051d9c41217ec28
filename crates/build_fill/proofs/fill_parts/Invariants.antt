-- `fill_parts`. The invariant: the runs of the windows passed are filed in the parts of their rows (`Going`).
use Rattle.meaning_numbers.proofs.Prelude.{◌-◌}
use Rattle.sums_slide.specs.Levels.{windows_of}
use Rattle.build_fill.proofs.Pass.{Going}
use Rattle.build_fill.proofs.fill_parts.Given as goal

abbrev pub invariant-loop-at : goal.invariant-loop-at
invariant-loop-at g l = Going g.p l.s l.w l.e l.fn.from l.count l.initial.left l.initial.right l.at l.left l.right

abbrev pub decreases-loop-at : goal.decreases-loop-at
decreases-loop-at g l = windows_of l.s l.w - l.at.offset
