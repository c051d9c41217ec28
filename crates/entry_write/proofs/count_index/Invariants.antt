-- `count_index`. The invariant: the head and the rows so far are counted.
use Rattle.text_count.specs.Count.{Counted}
use Rattle.entry_write.proofs.Spell.{begun}
use Rattle.entry_write.proofs.count_index.Given as goal

abbrev pub invariant-loop-r : goal.invariant-loop-r
invariant-loop-r l = Counted l.limit 0 (begun l.fn.head l.rows l.left l.right l.r-index) l.at
