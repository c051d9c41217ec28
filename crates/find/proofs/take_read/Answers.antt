-- `take_read`: the piece has a byte, or none.
use Rattle.meaning_numbers.proofs.Prelude.{length-take, arith}
use Rattle.find.proofs as own
use own.Reading.{open-less}
use Rattle.find.proofs.take_read.Goals as goal

pub read_piece-x-requires : goal.read_piece-x-requires
read_piece-x-requires c =
    open-less _ 65536 _ (simp length-take (omega arith)) c.requires.0
