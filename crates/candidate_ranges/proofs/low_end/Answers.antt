-- `low_end`: each step is small, so what the machine's bits say is said of the numbers.
use Rattle.meaning_numbers.proofs.Prelude.{◌∙◌, arith, ◌-ℤ◌, w64, to_z-of_z}
use Rattle.numbers.proofs.Small.{small-more, arg-back, small-sub, small-min}
use Rattle.numbers.proofs.Order.{min-same}
use Rattle.candidate_ranges.specs.Frame.{low_end}
use Rattle.candidate_ranges.proofs as own
use own.Sizes.{multiple-fits, dividend-small, dividend-fits, dividend-is}
use Rattle.candidate_ranges.proofs.low_end.Goals as goal

pub overflow_mul-x : goal.overflow_mul-x
overflow_mul-x c = multiple-fits ◌-ℤ◌ c.requires.0 c.requires.1 c.requires.0.fall (small-sub _ _ c.requires.1 c.requires.0.reach) c.requires.0.narrow

pub overflow_mul-x-2 : goal.overflow_mul-x-2
overflow_mul-x-2 c = multiple-fits ◌-ℤ◌ c.requires.0 c.requires.1 c.requires.0.fall (small-sub _ _ c.requires.1 c.requires.0.reach) c.requires.0.wide

pub overflow_add-least : goal.overflow_add-least
overflow_add-least c = dividend-fits ◌-ℤ◌ c.requires.0 c.requires.1 c.requires.0.fall (small-sub _ _ c.requires.1 c.requires.0.reach) small-min (c.min-least.ensures.value ∙ min-same _ _)

pub ceil_quotient-requires : goal.ceil_quotient-requires
ceil_quotient-requires c = (
  c.requires.0.some,
  arg-back _ (omega arith) (small-more 4611686018427387904 (omega arith) (dividend-small ◌-ℤ◌ c.requires.0 c.requires.1 c.requires.0.fall (small-sub _ _ c.requires.1 c.requires.0.reach) small-min (c.min-least.ensures.value ∙ min-same _ _))),
)

pub returns : goal.returns
unfolding low_end
returns c =
    to_z-of_z w64 _ (record { sfits = c.ceil_quotient.type_inv }) ∙ c.ceil_quotient.ensures
    ∙ rw (dividend-is ◌-ℤ◌ c.requires.0 c.requires.1 c.requires.0.fall (small-sub _ _ c.requires.1 c.requires.0.reach) small-min (c.min-least.ensures.value ∙ min-same _ _))
