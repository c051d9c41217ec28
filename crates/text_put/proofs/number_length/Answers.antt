-- `number_length`: the digits, and the sign of a number below 0.
use Rattle.meaning_numbers.proofs.Prelude.{◌≡◌, sym, ap, ◌∙◌, arith, pos, nat_abs, length, ◌≤ℤ◌, ◌<ℤ◌, w32, to_z-of_z, zmach32, rules}
use Rattle.meaning_text.specs.Number.{spellℕ}
use Rattle.text_put.proofs as own
use own.Digits.{spell-minus, spell-plus}
use Rattle.text_put.proofs.number_length.Goals as goal

pub returns-then-x-lt0 : goal.returns-then-x-lt0
returns-then-x-lt0 c =
    let x = c.args.x in
    let h : x <ℤ pos 0 = omega zmach32 in
    let e : c.unsigned_abs.result ≡ nat_abs x = c.unsigned_abs.ensures.value ∙ ap nat_abs (to_z-of_z w32 x c.ranges.x) in
    (omega (arith, c.digit_count-digits.ensures.0, ap (λ k. length (spellℕ k)) e, ap length (spell-minus x h)), search rules)

pub returns-else-x-lt0 : goal.returns-else-x-lt0
returns-else-x-lt0 c =
    let x = c.args.x in
    let h : pos 0 ≤ℤ x = omega zmach32 in
    let e : c.unsigned_abs.result ≡ nat_abs x = c.unsigned_abs.ensures.value ∙ ap nat_abs (to_z-of_z w32 x c.ranges.x) in
    (c.digit_count-digits.ensures.0 ∙ ap (λ k. length (spellℕ k)) e ∙ sym (ap length (spell-plus x h)), search rules)
