-- `copy_part`: the row's part of the column is lent to its writer.
use Rattle.extend_parts.specs.Copy.{part_copied}
use Rattle.extend_parts.proofs as own
use own.Copy.{part-back}
use Rattle.extend_parts.proofs.copy_part.Goals as goal

pub returns : goal.returns
unfolding part_copied
returns c =
    let a = c.args in
    part-back _ a.r.runs a.o.first a.r.first a.from.now a.to.now _ (rw c.part_size-n.ensures at c.write_part.ensures)
