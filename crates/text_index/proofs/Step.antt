-- Laws of specs/Step.
use Rattle.meaning_numbers.proofs.Prelude.{◌<◌, length, arith}
use Rattle.meaning_text.specs.Bytes.{bytes}
use Rattle.text_index.specs.{declared.Word.Word, Step.word}

-- every word has a byte
pub word-long : (w : Word) → 0 < length (word w)
unfolding word bytes
word-long Word.Window = omega arith
word-long Word.Width = omega arith
word-long Word.Windows = omega arith
word-long Word.Head = omega arith
word-long Word.Row = omega arith
word-long Word.Up = omega arith
word-long Word.Run = omega arith
word-long Word.Right = omega arith
word-long Word.RunEnd = omega arith
word-long Word.RowEnd = omega arith
word-long Word.End = omega arith
