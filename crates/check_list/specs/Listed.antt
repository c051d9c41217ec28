-- The list of a search as it grows: what is handed out of the matches so far stands first in its two slices (`Noted`), and some matches more are noted behind whatever came before (`Notes`). Where unused entries are 0 behind it, the list is filled.
use Rattle.std.specs.Prelude.{ℕ, ◌+◌, min, length, take, List, ◌++◌, map, ◌≡◌}
use Rattle.meaning_filter.specs.{declared.Pick.Pick, Matches.Upward, Closest.handed}
use Rattle.meaning_entries.specs.{Buffers.filled, Buffers.pair_room, Demand3.pairs}

-- of the matches l, n are counted, and what is handed out of them stands first in the two slices, as far as there is room
pub record Noted (pick : Pick) (l : List (ℕ × ℕ)) (n : ℕ) (offsets distances : List ℕ) : Type 0 where
  pub count : n ≡ length l
  pub front : take (length (handed pick l)) (pairs offsets distances) ≡ take (pair_room offsets distances) (handed pick l)

-- m is noted behind whatever k matches were noted at earlier offsets; r are counted then
pub record Notes (pick : Pick) (m : List (ℕ × ℕ)) (k r : ℕ) (offsets distances offsets' distances' : List ℕ) : Type 0 where
  pub count : r ≡ k + length m
  pub as-many-offsets : length offsets' ≡ length offsets
  pub as-many-distances : length distances' ≡ length distances
  pub notes : (l : List (ℕ × ℕ)) → Upward 0 (l ++ m) → Noted pick l k offsets distances → Noted pick (l ++ m) r offsets' distances'

-- where the list ends that hands out some of n matches, in room for so many
unfoldable pub end_of : Pick → ℕ → ℕ → ℕ
end_of Pick.All n room = min n room
end_of (Pick.Closest k) n room = min k (min n room)

-- the list at the end: as much of what is handed out of l as there is room for, and 0 behind it; r are counted
pub record ListFilled (pick : Pick) (l : List (ℕ × ℕ)) (r : ℕ) (offsets distances offsets' distances' : List ℕ) : Type 0 where
  pub count : r ≡ length l
  pub offsets_are : offsets' ≡ filled 0 (map (λ x. x.0) (take (pair_room offsets distances) (handed pick l))) offsets
  pub distances-are : distances' ≡ filled 0 (map (λ x. x.1) (take (pair_room offsets distances) (handed pick l))) distances
