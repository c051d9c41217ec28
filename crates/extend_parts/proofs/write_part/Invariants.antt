-- `write_part`. The invariant: the first numbers are copied (`paste_more`).
use Rattle.meaning_numbers.proofs.Prelude.{◌≡◌, paste}
use Rattle.extend_parts.proofs.write_part.Given as goal

abbrev pub invariant-loop-t : goal.invariant-loop-t
invariant-loop-t l = l.part ≡ paste l.initial.part 0 l.numbers l.t
