-- `few_digits`: each range goes up to the next power of ten.
use Rattle.meaning_numbers.proofs.Prelude.{arith, sym}
use Rattle.text_put.proofs as own
use own.Digits.{length-one, length-between}
use Rattle.text_put.proofs.few_digits.Goals as goal

pub returns-in-0-to-9 : goal.returns-in-0-to-9
returns-in-0-to-9 c = sym (length-one _ (omega arith))

pub returns-in-10-to-99 : goal.returns-in-10-to-99
returns-in-10-to-99 c = sym (length-between 1 _ (omega arith) (omega arith))

pub returns-in-100-to-999 : goal.returns-in-100-to-999
returns-in-100-to-999 c = sym (length-between 2 _ (omega arith) (omega arith))

pub returns-in-1000-to-9999 : goal.returns-in-1000-to-9999
returns-in-1000-to-9999 c = sym (length-between 3 _ (omega arith) (omega arith))

pub returns-in_default : goal.returns-in_default
returns-in_default c = sym (length-between 4 _ (omega arith) (omega arith))
