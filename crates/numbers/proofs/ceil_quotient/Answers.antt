-- `ceil_quotient`: 0 less the floor of 0 less the number.
use Rattle.meaning_numbers.specs.Quotient.{floorℤ, ceilℤ}
use Rattle.meaning_numbers.proofs.Prelude.{◌≡◌, ◌∙◌, ap, arith, ℤ, neg_ℤ, w64, to_z-of_z}
use Rattle.numbers.specs.Small.{Small}
use Rattle.numbers.proofs as own
use own.Small.{small-neg, small-floor, small-fits, small-back, zero-less}
use Rattle.numbers.proofs.ceil_quotient.Goals as goal

module _ (c : goal.After-floor_quotient) where
  abbrev z : ℤ
  z = c.args.z

  told : c.floor_quotient.result ≡ floorℤ (neg_ℤ z) c.args.d
  told = c.floor_quotient.ensures ∙ rw (to_z-of_z w64 z c.ranges.z, zero-less z, small-back _ (omega arith) (small-neg z c.requires.1))

  small : Small 4611686018427387904 c.floor_quotient.result
  small = rw told (small-floor _ _ (small-neg z c.requires.1))

pub overflow_sub-result : goal.overflow_sub-result
overflow_sub-result c = rw (small-back _ (omega arith) (small c), zero-less _) (small-fits (omega arith) (small-neg _ (small c)))

pub returns : goal.returns
unfolding ceilℤ
returns c =
    let r = c.floor_quotient.result in
    rw (small-back r (omega arith) (small c), zero-less r, small-back _ (omega arith) (small-neg r (small c))) (ap neg_ℤ (told c))
