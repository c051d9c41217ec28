-- `find_row`: the first row whose upper end is above the sum stands from `lo` to `hi`.
-- The measure is how many rows lie between.
use Rattle.std.proofs.Common.{◌-◌}
use Rattle.rows_find.proofs.Search.{Between}
use Rattle.rows_find.proofs.find_row.Given as goal

abbrev pub invariant-loop-lo : goal.invariant-loop-lo
invariant-loop-lo l = Between l.rows l.count l.sum l.lo l.hi

abbrev pub decreases-loop-lo : goal.decreases-loop-lo
decreases-loop-lo l = l.hi - l.lo
