-- `pack_rows`: the first i records are made.
use Rattle.std.proofs.Common.{◌≡◌}
use Rattle.rows_pack.specs.Packed.{packed}
use Rattle.rows_pack.proofs.pack_rows.Given as goal

abbrev pub invariant-loop-i : goal.invariant-loop-i
invariant-loop-i l = l.rows ≡ packed l.numbers l.ends l.d l.bias l.i l.initial.rows
