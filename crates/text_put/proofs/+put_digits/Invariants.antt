-- `put_digits`: one digit, or those of a tenth and the last. The measure is the number.
use Rattle.text_put.proofs.+put_digits.Given as goal

abbrev pub decreases-put_digits : goal.decreases-put_digits
decreases-put_digits l = l.n
