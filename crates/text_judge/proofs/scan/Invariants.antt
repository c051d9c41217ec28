-- `scan`. The invariant: what is left of the text comes to what the text comes to, and no count is above the bytes read (`Scanning`). The measure is what is left of the text.
use Rattle.meaning_numbers.proofs.Prelude.{◌-◌, length}
use Rattle.text_judge.proofs.Events.{Scanning}
use Rattle.text_judge.proofs.scan.Given as goal

abbrev pub invariant-loop-low : goal.invariant-loop-low
invariant-loop-low l = Scanning l.text l.s l.t l.i

abbrev pub decreases-loop-low : goal.decreases-loop-low
decreases-loop-low l = length l.text - l.i
