-- `main`: it is safe, and each function that it calls is given what it asks (`starts`, `ends`).
use Rattle.meaning_numbers.proofs.Prelude.{pos, length-replicate, arith}
use Rattle.find.proofs as own
use own.Reading.{starts}
use Rattle.find.proofs.main.Goals as goal

pub read_all-r-requires : goal.read_all-r-requires
read_all-r-requires c = rw c.begin.ensures (starts 4611686018427387904 _ _ (omega arith) (length-replicate 4096 (pos 0)) (length-replicate 1024 (pos 0)))
