-- The closest few of the matches so far, kept in two columns.
use Rattle.std.specs.Prelude.{ℕ, min, length, take, List, [], ◌∷◌, ◌++◌, ◌≡◌}
use Rattle.meaning_filter.specs.{Matches.Upward, Closest.closest}
use Rattle.meaning_entries.specs.Demand3.{pairs}

-- the k closest of l stand first in the two columns
pub record Held (k : ℕ) (l : List (ℕ × ℕ)) (offsets distances : List ℕ) : Type 0 where
  pub front : take (min k (length l)) (pairs offsets distances) ≡ closest k l

-- x comes after n matches, all at earlier offsets: where the k closest of those stood first, the k closest of all do
pub record Keeps (k n : ℕ) (x : ℕ × ℕ) (offsets distances offsets' distances' : List ℕ) : Type 0 where
  pub as-many-offsets : length offsets' ≡ length offsets
  pub as-many-distances : length distances' ≡ length distances
  pub kept : (l : List (ℕ × ℕ)) → length l ≡ n → Upward 0 (l ++ (x ∷ [])) → Held k l offsets distances → Held k (l ++ (x ∷ [])) offsets' distances'
