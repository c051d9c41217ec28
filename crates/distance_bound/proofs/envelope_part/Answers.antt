use Rattle.meaning_numbers.proofs.Sum.{Σℕ-none, Σℕ-more}
use Rattle.meaning_numbers.proofs.Prelude.{◌≤◌, arith}
use Rattle.meaning_filter.proofs.{Apart.excess-sq-le}
use Rattle.distance_bound.proofs.envelope_part.Goals as goal

pub loop-k-init : goal.loop-k-init
loop-k-init c = rw Σℕ-none (omega arith)

-- what a turn adds
small : (c : goal.After-excess_at-sum) → c.excess_at-sum.result ≤ 400000000
small c = rw c.excess_at-sum.ensures (excess-sq-le (c.requires.all_in.1.at _) (c.requires.all_in.2.at _) (c.requires.all_in.0.at _))

pub loop-k-preserved : goal.loop-k-preserved
loop-k-preserved c = rw Σℕ-more (omega (arith, small c), omega (arith, c.excess_at-sum.ensures))
