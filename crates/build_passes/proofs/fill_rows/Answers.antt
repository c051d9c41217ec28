-- `fill_rows`: the row records past the rows and all runs are cleared, and the parts filled from the first window on.
use Rattle.build_fill.proofs.Turn.{first-at}
use Rattle.build_passes.proofs.Filled.{starts, finished}
use Rattle.build_passes.proofs.fill_rows.Goals as goal

pub fill_parts-requires : goal.fill_parts-requires
fill_parts-requires g c =
    let f = first-at c.requires.lent c.first_place-from.ensures in
    rw c.clear_rows.ensures (starts c.requires c.clear_runs.ensures.0 c.clear_runs.ensures.1 f.0 f.1)

pub returns : goal.returns
returns g c = rw c.clear_rows.ensures (finished c.requires c.clear_runs.ensures.0 c.clear_runs.ensures.1 c.fill_parts.ensures)
