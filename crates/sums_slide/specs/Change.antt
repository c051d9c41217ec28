-- The end of a run: the first offset, from one on, that does not pass a test; and of the windows of one row.
use Rattle.std.specs.Prelude.{ℕ, ◌<◌, ◌≤◌, Bool, true, false, ◌≡◌}
use Rattle.sums_slide.specs.Levels.{within, row_of}

-- r is the first offset at or after from that does not pass, or n
pub record Change (p : ℕ → Bool) (from n r : ℕ) : Type 0 where
  pub above : from ≤ r
  pub below : r ≤ n
  pub same : (j : ℕ) → j < r → from ≤ j → p j ≡ true
  pub other : r < n → p r ≡ false

-- the windows from one on whose raised sums are in a range end at r, where the raised sum is z
pub record Stop (lv : ℕ → ℕ) (n lo hi from r z : ℕ) : Type 0 where
  pub change : Change (λ j. within lo hi (lv j)) from n r
  pub sum : z ≡ lv r

-- the windows from one on that have its row number end at r
pub record RowRun (row : ℕ → ℕ) (n from r : ℕ) : Type 0 where
  pub ahead : from < r
  pub below : r ≤ n
  pub same : (j : ℕ) → j < r → from ≤ j → row j ≡ row from
  pub other : r < n → row r ≡ row from → ⊥

-- the windows of one row, by raised sums and row numbers
pub record NextRow (lv : ℕ → ℕ) (d n from r z : ℕ) : Type 0 where
  pub run : RowRun (row_of lv d) n from r
  pub sum : z ≡ lv r
