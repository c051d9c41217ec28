-- `write_entry` meets its contract.
use Rattle.meaning_numbers.proofs.Prelude.{rules, lt-ltb, le-ltb, refl, arith, zero-add, length-set}
use Rattle.meaning_rows.proofs.Cursors.{file_right}
use Rattle.build_parts.specs.Part.{written_in}
use Rattle.build_parts.proofs.write_entry.Goals as goal

pub returns-then-t-size : goal.returns-then-t-size
unfolding file_right
returns-then-t-size c = let a = c.args in (refl, rw (lt-ltb _ _ c.if-t-size.true, zero-add (written_in a.runs a.right.now), zero-add a.runs))

pub returns-else-t-size : goal.returns-else-t-size
unfolding file_right
returns-else-t-size c = let a = c.args in (refl, rw (le-ltb _ _ c.if-t-size.false, zero-add (written_in a.runs a.right.now)))
