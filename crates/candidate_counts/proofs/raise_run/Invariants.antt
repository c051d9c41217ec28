-- `raise_run`. The invariant: the places passed are raised (`raise-more`).
use Rattle.meaning_numbers.proofs.Prelude.{◌≤◌, max}
use Rattle.candidate_counts.specs.Raise.{between, Raised}
use Rattle.candidate_counts.proofs.raise_run.Given as goal

abbrev pub invariant-loop-j : goal.invariant-loop-j
invariant-loop-j l = (l.j ≤ max l.from l.to) × Raised l.part (between l.from l.j) l.initial.scratch l.scratch
