use Rattle.meaning_numbers.proofs.Prelude.{◌+◌, arith}
use Rattle.sums_slide.specs.Levels.{level-small}
use Rattle.sums_slide.proofs as own
use own.Levels.{bounds-more, bounds-one}
use Rattle.sums_slide.proofs.level_ends.Goals as goal

pub loop-j-init : goal.loop-j-init
loop-j-init c = (c.first_level-n.ensures, bounds-one c.first_level-n.ensures, omega (arith, c.first_level-n.ensures, level-small 0 c.requires))

pub loop-j-preserved : goal.loop-j-preserved
loop-j-preserved c = (
  c.move_on-n.ensures,
  bounds-more _ _ c.move_on-n.result c.loop-j.invariant.1 c.move_on-n.ensures c.min-least.ensures c.max-greatest.ensures,
  omega (arith, level-small (c.loop-j.j + 1) c.requires),
)
