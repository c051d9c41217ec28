-- `list_ends`: the ends and the numbers of runs of the first i rows are listed.
use Rattle.std.proofs.Common.{◌≡◌}
use Rattle.extend_count.specs.Listed.{listed, end_of, size_of}
use Rattle.extend_count.proofs.list_ends.Given as goal

abbrev pub invariant-loop-i : goal.invariant-loop-i
invariant-loop-i l = (l.ups ≡ listed (end_of l.rows l.bias) l.i l.initial.ups) × (l.counts ≡ listed (size_of l.rows) l.i l.initial.counts)
