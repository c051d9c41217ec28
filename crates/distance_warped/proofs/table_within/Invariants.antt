-- `table_within`. The invariant: `row` is row i of the table, and `rest` the envelope bound of the rows after it. Left early, the least number of a row with the bound of the rows after it is at most the distance (`rest-least`).
use Rattle.meaning_numbers.specs.Sum.{Σℕ}
use Rattle.meaning_numbers.proofs.Prelude.{◌≡◌, ◌+◌}
use Rattle.meaning_curves.specs.{Curve.at, Curve.stretch}
use Rattle.meaning_filter.proofs.Bound.{apart}
use Rattle.distance_warped.specs.Rows.{cells, RowIs}
use Rattle.distance_warped.proofs.table_within.Given as goal

abbrev pub invariant-loop-i : goal.invariant-loop-i
invariant-loop-i l = RowIs (cells (stretch l.s l.from) (at l.q) l.b l.i) l.m l.row × (l.rest + Σℕ (l.i + 1) (apart (stretch l.s l.from) (at l.low) (at l.high)) ≡ l.bound)
