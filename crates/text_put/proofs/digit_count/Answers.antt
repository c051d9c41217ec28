-- `digit_count`: five digits are taken off at once.
use Rattle.meaning_numbers.proofs.Prelude.{◌/◌, arith, rules}
use Rattle.text_put.proofs as own
use own.Digits.{length-five, length_most}
use Rattle.text_put.proofs.digit_count.Goals as goal

pub returns-then-n-lt100000 : goal.returns-then-n-lt100000
returns-then-n-lt100000 c = (search rules, omega (arith, c.few_digits.ensures, length_most 4 c.args.n (omega arith)))

pub overflow_add-result : goal.overflow_add-result
overflow_add-result c = omega (arith, c.few_digits-2.ensures, length_most 9 (c.args.n / 100000) (omega (arith, c.ranges.n)))

pub returns : goal.returns
returns c =
    let n = c.args.n in
    let e = length-five n (omega arith) in
    (search rules, omega (arith, c.few_digits-2.ensures, e, length_most 9 n (omega (arith, c.ranges.n))))
