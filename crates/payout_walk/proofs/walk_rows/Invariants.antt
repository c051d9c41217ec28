-- `walk_rows`. The invariant: what is left of the text comes to what the text comes to (`Kept`), and no more rows are closed than bytes were read.
use Rattle.meaning_numbers.proofs.Prelude.{◌≤◌}
use Rattle.text_index.proofs.View.{Kept}
use Rattle.payout_walk.specs.Walk.{start_walk, tell_walk, shut_walk}
use Rattle.payout_walk.proofs.walk_rows.Given as goal

abbrev pub invariant-loop-b : goal.invariant-loop-b
invariant-loop-b l = Kept (tell_walk l.series l.head) shut_walk start_walk l.text l.s l.t l.b-index × (l.t.rows ≤ l.b-index)
