use Rattle.meaning_numbers.proofs.Sum.{Σℕ-none, Σℕ-more}
use Rattle.meaning_numbers.proofs.Prelude.{◌≡◌, ◌∙◌, ℕ, ◌+◌, ◌≤◌, arith}
use Rattle.meaning_curves.specs.{Curve.at, Curve.stretch, Straight.cost}
use Rattle.meaning_curves.proofs.Values.{cost-le}
use Rattle.numbers.proofs.Back.{cost-back}
use Rattle.distance_straight.proofs.part.Goals as goal

pub loop-k-init : goal.loop-k-init
loop-k-init c = rw Σℕ-none (omega arith)

-- what a turn adds
module _ (c : goal.After-squared-sum) where
  abbrev p : ℕ
  p = c.args.p + c.loop-k.k

  told : c.squared-sum.result ≡ cost (stretch c.args.s.now c.args.from p) (at c.args.q.now p)
  told = c.squared-sum.ensures ∙ cost-back (c.requires.all_in.at _) (c.requires.all_in_2.at _)

  small : c.squared-sum.result ≤ 400000000
  small = rw told (cost-le (c.requires.all_in.at _) (c.requires.all_in_2.at _))

pub loop-k-preserved : goal.loop-k-preserved
loop-k-preserved c = rw Σℕ-more (omega (arith, small c), omega (arith, told c))
