-- `row_from`. The invariant: what is left of the text comes to the same line (`Going`). The measure is what is left of the text.
use Rattle.meaning_numbers.proofs.Prelude.{◌-◌, length}
use Rattle.text_rows.proofs.Turn.{Going}
use Rattle.text_rows.proofs.row_from.Given as goal

abbrev pub invariant-loop-low : goal.invariant-loop-low
invariant-loop-low l = Going l.text l.initial.state l.initial.tally l.initial.i l.state l.tally l.i

abbrev pub decreases-loop-low : goal.decreases-loop-low
decreases-loop-low l = length l.text - l.i
