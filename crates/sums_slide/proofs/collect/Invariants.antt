-- `collect`. The invariant: the numbers passed whose flags are set stand behind the first k (`collect-yes`, `collect-no`).
use Rattle.sums_slide.specs.{Marks.lit, Picked.picked, Picked.Appended}
use Rattle.sums_slide.proofs.collect.Given as goal

abbrev pub invariant-loop-x : goal.invariant-loop-x
invariant-loop-x l = Appended (picked (lit l.flags l.base) l.base l.x) l.k l.n l.initial.out l.out
