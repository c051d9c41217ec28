-- `slide` (`level-next`).
use Rattle.meaning_numbers.proofs.Prelude.{◌≡◌, ◌+◌, arith}
use Rattle.numbers.specs.Raised.{raised-le}
use Rattle.sums_slide.specs.Levels.{level, level-small}
use Rattle.sums_slide.proofs as own
use own.Levels.{level-next}
use Rattle.sums_slide.proofs.slide.Goals as goal

pub overflow_add-result : goal.overflow_add-result
overflow_add-result c =
    omega (arith, raised-le (c.requires.lent.all.at (c.args.j + c.args.w)), level-small c.args.j c.requires.lent)

slid : (c : goal.After-value_at-2) → level c.args.s.now c.args.w c.args.e (c.args.j + 1) + c.value_at-2.result ≡ c.args.n + c.value_at.result
slid c =
    let a = c.args in
    omega (arith, level-next a.s.now a.w a.e a.j)

pub overflow_sub-result : goal.overflow_sub-result
overflow_sub-result c = omega (arith, slid c)

pub returns : goal.returns
returns c = omega (arith, slid c)
