-- `file_entry`: the row's part of both columns is lent to its writer.
use Rattle.build_parts.proofs as own
use own.Lent.{left_back, right-back}
use Rattle.build_parts.proofs.file_entry.Goals as goal

pub returns : goal.returns
returns c =
    let a = c.args in
    (left_back a.r a.left.now a.right.now c.requires.2 a.x _ c.write_entry.ensures.0, right-back a.r a.left.now a.right.now c.requires.2 a.y _ c.write_entry.ensures.1)
