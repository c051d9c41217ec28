-- `copy_column`: the old runs of the first i rows are copied, and the old rows among them are passed.
use Rattle.std.proofs.Common.{◌≡◌}
use Rattle.extend_parts.specs.Copy.{passed_to, column_to}
use Rattle.extend_parts.proofs.copy_column.Given as goal

abbrev pub invariant-loop-i : goal.invariant-loop-i
invariant-loop-i l = (l.a ≡ passed_to l.old l.rows l.i) × (l.to ≡ column_to l.old l.from l.rows l.i l.initial.to)
