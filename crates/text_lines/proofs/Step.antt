-- Laws of specs/Step.
use Rattle.meaning_numbers.proofs.Prelude.{◌<◌, length, arith}
use Rattle.meaning_text.specs.Bytes.{bytes}
use Rattle.text_lines.specs.{declared.Word.Word, Step.word}

-- every word has a byte
pub word-long : (w : Word) → 0 < length (word w)
unfolding word bytes
word-long Word.Window = omega arith
word-long Word.Width = omega arith
word-long Word.Merge = omega arith
word-long Word.Series = omega arith
word-long Word.Find = omega arith
word-long Word.Raw = omega arith
word-long Word.Normal = omega arith
word-long Word.Query = omega arith
word-long Word.End = omega arith
word-long Word.Line = omega arith
word-long Word.LineEnd = omega arith
word-long (Word.Space p) = omega arith
