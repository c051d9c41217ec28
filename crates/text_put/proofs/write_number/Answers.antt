-- `write_number`. By the sign: a minus and the digits, or the digits.
use Rattle.meaning_numbers.proofs.Prelude.{◌≡◌, pos, nat_abs, ◌≤ℤ◌, ◌<ℤ◌, ap, ◌∙◌, sym, w64, to_z-of_z, zmach}
use Rattle.text_put.proofs as own
use own.{Digits.spell-minus, Digits.spell-plus, Put.put_then}
use Rattle.text_put.proofs.write_number.Goals as goal

pub returns-then-negative : goal.returns-then-negative
returns-then-negative c =
    let x = c.args.x in
    let h : x <ℤ pos 0 = omega zmach in
    let e : nat_abs x ≡ c.unsigned_abs-m.result = sym (c.unsigned_abs-m.ensures.value ∙ ap nat_abs (to_z-of_z w64 x c.ranges.x)) in
    rw (spell-minus x h, e) (put_then c.put_byte-to.ensures c.put_digits.ensures)

pub returns : goal.returns
returns c =
    let x = c.args.x in
    let h : pos 0 ≤ℤ x = omega zmach in
    let e : nat_abs x ≡ c.unsigned_abs-m.result = sym (c.unsigned_abs-m.ensures.value ∙ ap nat_abs (to_z-of_z w64 x c.ranges.x)) in
    rw (spell-plus x h, e) c.put_digits-2.ensures
