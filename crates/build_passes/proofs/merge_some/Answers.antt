-- `merge_some`: with g = 0 nothing is merged; else the runs are cleared, and the packed rows merged.
use Rattle.build_passes.proofs.Stages.{merge-standing, merged-as}
use Rattle.build_passes.proofs.merge_some.Goals as goal

pub merge_packed-requires : goal.merge_packed-requires
merge_packed-requires g c = (merge-standing c.requires.0 c.clear_runs.ensures, c.requires.1)

pub returns : goal.returns
returns g c = merged-as c.requires.0 c.args.g c.merge_packed.ensures
