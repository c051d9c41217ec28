-- Texts counted: the place behind a text that begins at a place, or one past a limit. The parts of an index text, by the lengths of their numbers.
use Rattle.std.specs.Prelude.{ℕ, suc, ◌+◌, min, length, List, ◌≡◌}

-- `to` is the place behind l, where l begins at `from`, or one past the limit
pub record Counted (limit from : ℕ) (l : List ℕ) (to : ℕ) : Type 0 where
  pub ends : to ≡ min (from + length l) (suc limit)
