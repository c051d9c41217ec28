-- `first_outside`. The invariant: every value passed is in its limits; a block that counts none adds its values (`block_in`).
use Rattle.meaning_numbers.proofs.Prelude.{◌*◌}
use Rattle.values.specs.Place.{InTo}
use Rattle.values.proofs.first_outside.Given as goal

abbrev pub invariant-loop-b : goal.invariant-loop-b
invariant-loop-b l = InTo l.s (l.b * 256)
