-- `root`. The invariant: the root lies from r to below r + width, which is at most 2 ^ 32.
use Rattle.meaning_numbers.proofs.Prelude.{◌+◌, ◌*◌, ◌≤◌, ◌<◌}
use Rattle.numbers.proofs.root.Given as goal

abbrev pub invariant-loop-width : goal.invariant-loop-width
invariant-loop-width l = (l.r * l.r ≤ l.y) × (l.y < (l.r + l.width) * (l.r + l.width)) × (l.r + l.width ≤ 4294967296) × (1 ≤ l.width)

abbrev pub decreases-loop-width : goal.decreases-loop-width
decreases-loop-width l = l.width
