-- `tell_runs`. The invariant: the runs so far say what is known (`RunsFrom`), and the counts are small. The measure is what is left of the text.
use Rattle.meaning_numbers.proofs.Prelude.{◌-◌, ◌≤◌, length}
use Rattle.text_event.specs.Event.{RunsFrom}
use Rattle.text_judge.specs.Tally.{tell_tally, Fits}
use Rattle.text_judge.proofs.tell_runs.Given as goal

abbrev pub invariant-loop-q : goal.invariant-loop-q
invariant-loop-q l = Fits l.tally l.i × (l.i ≤ length l.text) × RunsFrom tell_tally l.text l.initial.tally l.initial.i l.tally l.i

abbrev pub decreases-loop-q : goal.decreases-loop-q
decreases-loop-q l = length l.text - l.i
