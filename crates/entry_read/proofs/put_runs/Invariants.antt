-- `put_runs`. The invariant: the columns are what the runs so far make of those at the beginning (`RunsFrom`). The measure is what is left of the text.
use Prim.Native.Nat.{◌-◌, ◌≤◌}
use lib.ListN.{length}
use mathlib.Core.Path.{◌≡◌}
use Rattle.text_event.specs.Event.{RunsFrom}
use Rattle.entry_read.specs.Runs.{tell_columns}
use Rattle.entry_read.proofs.put_runs.Given as goal

abbrev pub invariant-loop-q : goal.invariant-loop-q
invariant-loop-q l = (l.n ≤ l.i) × (l.i ≤ length l.text) × RunsFrom tell_columns l.text (record { left = l.initial.last; count = l.initial.n; lefts = l.initial.left; rights = l.initial.right }) l.initial.i (record { left = l.last; count = l.n; lefts = l.left; rights = l.right }) l.i × (length l.left ≡ length l.initial.left) × (length l.right ≡ length l.initial.right)

abbrev pub decreases-loop-q : goal.decreases-loop-q
decreases-loop-q l = length l.text - l.i
