-- A text in a buffer.
use Rattle.std.specs.Prelude.{ℕ, length, List}
use Rattle.std.proofs.lemmas.List.Edits.{sets}
use Rattle.clear.specs.Clear.{cleared_from}

-- from the beginning on, as far as there is room, and zeros behind it
abbrev pub spelled : List ℕ → List ℕ → List ℕ
spelled l old = cleared_from (length l) (sets old 0 l)
