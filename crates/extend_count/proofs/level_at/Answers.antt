-- `level_at` meets its contract.
use Rattle.meaning_numbers.proofs.Prelude.{◌≡◌, ◌+◌, arith}
use Rattle.sums_slide.specs.Levels.{level, level-small}
use Rattle.extend_count.proofs.level_at.Goals as goal

is-level : (c : goal.After-raised_sum) → c.raised_sum.result + c.args.e ≡ level c.args.s.now c.args.w c.args.e c.args.j
unfolding level
is-level c = rw c.raised_sum.ensures

pub overflow_add-result : goal.overflow_add-result
overflow_add-result c = omega (arith, is-level c, level-small c.args.j c.requires)

pub returns-then-j-s : goal.returns-then-j-s
returns-then-j-s c = λ l. is-level c
