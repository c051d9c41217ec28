-- `put_word`. The invariant: the first bytes of the word stand in the buffer.
use Rattle.meaning_numbers.proofs.Prelude.{take}
use Rattle.text_put.specs.Put.{Put}
use Rattle.text_put.proofs.put_word.Given as goal

abbrev pub invariant-loop-b : goal.invariant-loop-b
invariant-loop-b l = Put l.initial.buf l.at (take l.b-index l.word) l.buf l.to
