-- `count_names`. The invariant: k of the names passed are in the range.
use Rattle.meaning_numbers.specs.Sum.{count}
use Rattle.meaning_numbers.proofs.Prelude.{◌≡◌, ◌≤◌}
use Rattle.build_merge.specs.Names.{names_of}
use Rattle.build_merge.proofs.count_names.Given as goal

abbrev pub invariant-loop-name : goal.invariant-loop-name
invariant-loop-name l = (l.k ≤ l.name-index) × (l.k ≡ count (names_of l.fn.names l.first l.lo l.hi) l.name-index)
