-- Laws of specs/Runs.
use Prim.Native.Nat.{ℕ}
use mathlib.Core.List.{List}
use Rattle.entry_read.specs.Runs.{Columns}

-- a row's end
abbrev pub shut_columns : Columns → Columns
shut_columns t = t

abbrev pub start_columns : List ℕ → List ℕ → Columns
start_columns left right = record { left = 0; count = 0; lefts = left; rights = right }
