-- `high_end`: each step is small, so what the machine's bits say is said of the numbers.
use Rattle.meaning_numbers.proofs.Prelude.{◌∙◌, ◌+ℤ◌, w64, to_z-of_z}
use Rattle.numbers.proofs.Small.{small-add, small-max}
use Rattle.numbers.proofs.Order.{max-same}
use Rattle.candidate_ranges.specs.Frame.{high_end}
use Rattle.candidate_ranges.proofs as own
use own.Sizes.{multiple-fits, dividend-fits, dividend-is}
use Rattle.candidate_ranges.proofs.high_end.Goals as goal

pub overflow_mul-y : goal.overflow_mul-y
overflow_mul-y c = multiple-fits ◌+ℤ◌ c.requires.0 c.requires.1 c.requires.0.rise (small-add _ _ c.requires.1 c.requires.0.reach) c.requires.0.narrow

pub overflow_mul-y-2 : goal.overflow_mul-y-2
overflow_mul-y-2 c = multiple-fits ◌+ℤ◌ c.requires.0 c.requires.1 c.requires.0.rise (small-add _ _ c.requires.1 c.requires.0.reach) c.requires.0.wide

pub overflow_add-most : goal.overflow_add-most
overflow_add-most c = dividend-fits ◌+ℤ◌ c.requires.0 c.requires.1 c.requires.0.rise (small-add _ _ c.requires.1 c.requires.0.reach) small-max (c.max-most.ensures.value ∙ max-same _ _)

pub returns : goal.returns
unfolding high_end
returns c =
    to_z-of_z w64 _ (record { sfits = c.floor_quotient.type_inv }) ∙ c.floor_quotient.ensures
    ∙ rw (dividend-is ◌+ℤ◌ c.requires.0 c.requires.1 c.requires.0.rise (small-add _ _ c.requires.1 c.requires.0.reach) small-max (c.max-most.ensures.value ∙ max-same _ _))
