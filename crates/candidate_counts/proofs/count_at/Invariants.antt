-- `count_at`. The invariant: the count so far.
use Rattle.meaning_numbers.specs.Sum.{count}
use Rattle.meaning_numbers.proofs.Prelude.{◌≡◌, ◌+◌}
use Rattle.candidate_counts.specs.Handed.{stood}
use Rattle.candidate_counts.proofs.count_at.Given as goal

abbrev pub invariant-loop-x : goal.invariant-loop-x
invariant-loop-x l = l.found ≡ count (λ j. stood l.scratch l.p (l.from + j)) l.x-index
