-- `plan`: what it asks of each part, the part before has ensured.
use Rattle.clear.proofs.Cleared.{cleared-zero}
use Rattle.sums_count.proofs.plan.Goals as goal

pub count_runs-requires-clause-by_index : goal.count_runs-requires-clause-by_index
count_runs-requires-clause-by_index c = cleared-zero _ c.clear.ensures
