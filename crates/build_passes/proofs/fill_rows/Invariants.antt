-- `fill_rows`. The test of each row that is passed to `fill_parts`.
use Rattle.meaning_curves.specs.Curve.{window_sum}
use Rattle.meaning_rows.proofs.Build.{merged_rows}
use Rattle.sums_slide.specs.Levels.{windows_of}
use Rattle.build_passes.proofs.Rowed.{tests}
use Rattle.build_passes.proofs.fill_rows.Given as goal

abbrev pub ghost-fill_parts : goal.ghost-fill_parts
ghost-fill_parts g a = tests (merged_rows (window_sum a.s.now a.w) g.p.0 g.p.1 (windows_of a.s.now a.w))
