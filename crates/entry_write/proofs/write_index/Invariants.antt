-- `write_index`. The invariant: the head and the rows so far stand in the text.
use Rattle.text_put.specs.Put.{Put}
use Rattle.entry_write.proofs.Spell.{begun}
use Rattle.entry_write.proofs.write_index.Given as goal

abbrev pub invariant-loop-r : goal.invariant-loop-r
invariant-loop-r l = Put l.fn.text 0 (begun l.fn.head l.rows l.left l.right l.r-index) l.text l.at
