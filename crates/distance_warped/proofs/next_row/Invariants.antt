-- `next_row`. The invariant: the row is made as far as cell j (`Halfway`), with the two numbers before it and the least number so far.
use Rattle.meaning_numbers.proofs.Prelude.{◌≡◌, ℕ, ◌+◌, ◌≤◌, ◌<◌}
use Rattle.meaning_curves.specs.{Curve.at, Curve.stretch}
use Rattle.distance_warped.specs.Rows.{big, before, cells, Halfway}
use Rattle.distance_warped.proofs.next_row.Given as goal

abbrev pub invariant-loop-j : goal.invariant-loop-j
invariant-loop-j l = let f = cells (stretch l.s l.from) (at l.q) l.b in
    Halfway (f l.i) (f (l.i + 1)) l.j l.m l.row × (l.corner ≡ before big (f l.i) l.j) × (l.left ≡ before big (f (l.i + 1)) l.j)
    × ((n : ℕ) → l.lo ≤ n → n < l.j → l.least ≤ f (l.i + 1) n)
