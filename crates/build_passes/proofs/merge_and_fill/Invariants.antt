-- `merge_and_fill`. The row width and the merge percentage that the stages are told of.
use Rattle.build_passes.proofs.merge_and_fill.Given as goal

abbrev pub ghost-merge_some : goal.ghost-merge_some
ghost-merge_some g a = g.p.0

abbrev pub ghost-fill_rows : goal.ghost-fill_rows
ghost-fill_rows g a = g.p
