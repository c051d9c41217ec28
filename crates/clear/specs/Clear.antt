-- A buffer cleared from a place on.
use Rattle.std.specs.Prelude.{ℕ, ◌-◌, length, take, replicate, List, ◌++◌}

-- the entries before `from` as they were, and `zero` in all others; where there are no others, nothing is altered
unfoldable pub cleared_to : {A : Type 0} → A → ℕ → List A → List A
cleared_to zero from l = take from l ++ replicate (length l - from) zero

-- of numbers, cleared to 0
abbrev pub cleared_from : ℕ → List ℕ → List ℕ
cleared_from from l = cleared_to 0 from l
