-- `build_rows`. The row width and the merge percentage that the stages are told of.
use Rattle.build_passes.proofs.build_rows.Given as goal

abbrev pub ghost-merge_and_fill : goal.ghost-merge_and_fill
ghost-merge_and_fill a = (a.d, a.g)
