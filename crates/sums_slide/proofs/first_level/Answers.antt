-- `first_level` meets its contract.
use Rattle.meaning_numbers.proofs.Prelude.{arith}
use Rattle.sums_slide.specs.Levels.{level-small}
use Rattle.sums_slide.proofs as own
use own.Levels.{level-first}
use Rattle.sums_slide.proofs.first_level.Goals as goal

pub overflow_add-result : goal.overflow_add-result
overflow_add-result c = let a = c.args in omega (arith, level-first a.s.now a.w a.e, level-small 0 c.requires)

pub returns : goal.returns
returns c = let a = c.args in omega (arith, c.raised_sum.ensures, level-first a.s.now a.w a.e)
