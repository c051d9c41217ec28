-- Bytes written into a buffer: byte by byte from a place on, as far as there is room; the next place is counted on to one past the end, which says that there was none.
use Rattle.std.specs.Prelude.{ℕ, suc, ◌+◌, min, length, List, ◌≡◌}
use Rattle.std.proofs.lemmas.List.Edits.{sets}

-- l stands in `new` from place `from` on, as far as there is room, everything else is as in `old`, and `to` is the place behind l or one past the end
pub record Put (old : List ℕ) (from : ℕ) (l : List ℕ) (new : List ℕ) (to : ℕ) : Type 0 where
  pub holds : new ≡ sets old from l
  pub ends : to ≡ min (from + length l) (suc (length old))
