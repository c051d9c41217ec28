-- What is tested once of an input.
use Rattle.std.specs.Prelude.{ℕ, ◌+◌, ◌<◌, ◌≤◌, ℤ, length, List}
use Rattle.meaning_curves.specs.Limits.{longest_query}
use Rattle.meaning_curves.proofs.Values.{AllIn}

-- s has stretches of m values, there is room for a number for each, and each value is in its limits
pub record Fits (s : List ℤ) (m room : ℕ) : Type 0 where
  pub some : 0 < m
  pub short : m ≤ longest_query
  pub long : m ≤ length s
  pub enough : length s < m + room
  pub inside : AllIn s
