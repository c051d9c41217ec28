-- `first_row`. The invariant: the row is made as far as cell j (`Halfway`).
use Rattle.meaning_numbers.proofs.Prelude.{◌≡◌, ◌*◌, ◌≤◌}
use Rattle.meaning_curves.specs.{Curve.at, Curve.stretch}
use Rattle.distance_warped.specs.Rows.{big, before, cells, Halfway}
use Rattle.distance_warped.proofs.first_row.Given as goal

abbrev pub invariant-loop-j : goal.invariant-loop-j
invariant-loop-j l = let f = cells (stretch l.s l.from) (at l.q) l.b 0 in
    Halfway (λ _. big) f l.j l.m l.row × (l.left ≡ before 0 f l.j) × (l.left ≤ 400000000 * l.j)
