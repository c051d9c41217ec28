use Rattle.meaning_numbers.proofs.Prelude.{◌≡◌, ◌∙◌, ◌*◌, ◌≤◌, arith}
use Rattle.meaning_numbers.proofs.{Root.sq-le, Sum.Σℕ-none, Sum.Σℕ-more}
use Rattle.meaning_curves.specs.Curve.{stretch}
use Rattle.numbers.specs.Raised.{raised, raised-le}
use Rattle.numbers.proofs.Back.{raised-back}
use Rattle.values.proofs.sums_at.Goals as goal

pub loop-k-init : goal.loop-k-init
loop-k-init c = rw (Σℕ-none, Σℕ-none) (omega arith)

module _ (c : goal.After-raise-v) where
  told : c.raise-v.result ≡ raised (stretch c.args.s.now c.args.from c.loop-k.k)
  told = c.raise-v.ensures ∙ raised-back (c.requires.all_in.at _)

  small : c.raise-v.result ≤ 20000
  small = rw told (raised-le (c.requires.all_in.at _))

  square-small : c.raise-v.result * c.raise-v.result ≤ 400000000
  square-small = omega (arith, sq-le small)

pub loop-k-preserved : goal.loop-k-preserved
loop-k-preserved c = rw (Σℕ-more, Σℕ-more) (omega (arith, small c), omega (arith, square-small c), omega (arith, told c), rw (told c) (omega arith))
