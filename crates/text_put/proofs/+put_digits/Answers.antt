-- `put_digits`: one digit, or those of a tenth and the last.
use Rattle.meaning_numbers.proofs.Prelude.{arith}
use Rattle.meaning_text.proofs.Number.{spell-one}
use Rattle.text_put.proofs.{Digits.spell-split, Put.put_then}
use Rattle.text_put.proofs.+put_digits.Goals as goal

pub returns-then-n-lt10 : goal.returns-then-n-lt10
returns-then-n-lt10 t c = rw (spell-one c.args.n (omega arith)) c.put_byte.ensures

pub returns : goal.returns
returns t c = rw (spell-split c.args.n (omega arith)) (put_then c.put_digits-to.ensures c.put_byte-2.ensures)
