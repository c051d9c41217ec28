-- The offsets of runs, ascending (`members`). Those of a set's runs are the offsets that are kept by its test. By induction on the number of offsets, one offset taken in at a time.
use Rattle.std.specs.Prelude.{ℕ, ◌+◌, ◌-◌, List, [], ◌∷◌, ◌++◌}
use Rattle.meaning_numbers.specs.Place.{numbers_from}

-- the offsets of a run
abbrev pub between : ℕ × ℕ → List ℕ
between x = numbers_from x.0 (x.1 + 1 - x.0)

-- the offsets of runs, in order
unfoldable pub members : List (ℕ × ℕ) → List ℕ
members [] = []
members (x ∷ l) = between x ++ members l
