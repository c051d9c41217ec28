-- A distance within a threshold, as an answer. One that was left early answers the same as the whole one.
use Rattle.std.specs.Prelude.{ℕ, leb, Bool, true, false, None, Some}
use Rattle.std.specs.declared.option.Option.{Option}

abbrev pub answer : Bool → ℕ → Option ℕ
answer true d = Some d
answer false d = None

-- d where it is at most the threshold
abbrev pub nearness : ℕ → ℕ → Option ℕ
nearness d E = answer (leb d E) d
