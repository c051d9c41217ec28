-- `extend_passes`. The old index, of which the passes are told.
use Rattle.extend_passes.specs.Whole.{index_of}
use Rattle.extend_passes.proofs.extend_passes.Given as goal

abbrev pub ghost-make_passes : goal.ghost-make_passes
ghost-make_passes a = index_of a.w a.d a.old a.from.now a.lefts.now a.rights.now
