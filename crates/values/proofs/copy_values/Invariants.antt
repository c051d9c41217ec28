-- `copy_values`: the first values are those of q.
use Rattle.meaning_numbers.proofs.Prelude.{◌≡◌, length, take}
use Rattle.values.proofs.copy_values.Given as goal

abbrev pub invariant-loop-j : goal.invariant-loop-j
invariant-loop-j l = (length l.out ≡ length l.q) × (take l.j l.out ≡ take l.j l.q)
