-- `lay_rows`: the first i records have their parts.
use Rattle.std.proofs.Common.{◌≡◌}
use Rattle.extend_parts.specs.Lay.{laid_to}
use Rattle.extend_parts.proofs.lay_rows.Given as goal

abbrev pub invariant-loop-i : goal.invariant-loop-i
invariant-loop-i l = l.rows ≡ laid_to l.ends l.i l.initial.rows
