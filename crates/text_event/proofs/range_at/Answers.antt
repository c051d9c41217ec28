-- `range_at`: `(row `, and two numbers.
use Rattle.meaning_numbers.proofs.Prelude.{w64, to_z-of_z, rules}
use Rattle.text_event.proofs as own
use own.Steps.{range-told}
use Rattle.text_event.proofs.range_at.Goals as goal

pub returns : goal.returns
returns c =
    let low = c.in_ok-low.low in
    let high = c.in_ok-up.up in
    rw (to_z-of_z w64 low (search rules), to_z-of_z w64 high (search rules)) (range-told _ _ low high _ _ (c.opens.ensures c.if-not-opens.false) c.in_ok-low.ensures c.in_ok-up.ensures)
