use Rattle.meaning_numbers.proofs.Sum.{Σℕ-none, Σℕ-more}
use Rattle.meaning_numbers.proofs.Prelude.{◌≡◌, ◌∙◌, ◌≤◌, arith}
use Rattle.meaning_curves.specs.Curve.{stretch}
use Rattle.numbers.specs.Raised.{raised, raised-le}
use Rattle.numbers.proofs.Back.{raised-back}
use Rattle.values.proofs.raised_sum.Goals as goal

pub loop-k-init : goal.loop-k-init
loop-k-init c = rw Σℕ-none (omega arith)

-- what a turn adds
module _ (c : goal.After-raise-sum) where
  told : c.raise-sum.result ≡ raised (stretch c.args.s.now c.args.from c.loop-k.k)
  told = c.raise-sum.ensures ∙ raised-back (c.requires.all_in.at _)

  small : c.raise-sum.result ≤ 20000
  small = rw told (raised-le (c.requires.all_in.at _))

pub loop-k-preserved : goal.loop-k-preserved
loop-k-preserved c = rw Σℕ-more (omega (arith, small c), omega (arith, told c))
