-- `fill_rows`. The invariant: k lines have been read, and their records stand in the first k places.
use mathlib.Core.Path.{◌≡◌}
use Rattle.text_rows.specs.Line.{line_at, stored}
use Rattle.text_rows.proofs.fill_rows.Given as goal

abbrev pub invariant-loop-k : goal.invariant-loop-k
invariant-loop-k l = record { read : l.p ≡ line_at l.text l.k; records : l.rows ≡ stored l.text l.k l.fn.rows }
