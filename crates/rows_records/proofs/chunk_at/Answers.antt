-- `chunk_at`: as many records as there are from the place on are copied into a chunk of records of zeros.
use Rattle.std.proofs.Common.{◌∙◌}
use Rattle.rows_records.proofs.Chunk.{count-is, chunk-copied}
use Rattle.rows_records.proofs.chunk_at.Goals as goal

pub returns : goal.returns
returns c = rw c.zero_row-chunk.ensures at c.copy_rows.ensures ∙ chunk-copied _ _ _ (count-is _ _ c.count_from-n.ensures)
