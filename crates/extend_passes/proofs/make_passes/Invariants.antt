-- `make_passes`. The old index, of which the weaving is told; and the windows that each row has, of which the filing is told.
use Rattle.extend_passes.proofs.Stages.{tests}
use Rattle.extend_passes.proofs.make_passes.Given as goal

abbrev pub ghost-weave_new : goal.ghost-weave_new
ghost-weave_new g a = g.x

abbrev pub ghost-fill_parts : goal.ghost-fill_parts
ghost-fill_parts g a = tests g.x a.s.now
