-- `sum_up`. The invariant: the counts passed are sums, and the sum so far is theirs (`summed-more`).
use Rattle.meaning_numbers.proofs.Prelude.{◌≡◌}
use Rattle.rows_pack.specs.Packed.{total, Summed}
use Rattle.rows_pack.proofs.sum_up.Given as goal

abbrev pub invariant-loop-i : goal.invariant-loop-i
invariant-loop-i l = (l.sum ≡ total l.initial.counts l.i) × Summed l.i l.initial.counts l.counts
