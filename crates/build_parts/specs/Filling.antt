-- The pass that fills all parts, by runs: what holds after the windows below j (`Filling`), and a run that a turn files.
-- Row i has the windows that pass its test P i; its part begins at the sum of the parts before. Entries behind all parts stay.
use Rattle.std.specs.Prelude.{ℕ, ◌+◌, ◌<◌, ◌≤◌, length, get_or, Bool, true, false, List, ◌≡◌}
use Rattle.meaning_numbers.specs.Sum.{Σℕ}
use Rattle.meaning_rows.specs.Runs.{before, run_count}
use Rattle.meaning_rows.proofs.Cursors.{Cursors}
use Rattle.meaning_rows.proofs.Parts.{Parts}

module _ (R W : ℕ) (P : ℕ → ℕ → Bool) where
  -- where the part of row i begins, and how long all parts are
  abbrev pub part_start : ℕ → ℕ
  part_start i = Σℕ i (λ x. run_count (P x) W)

  abbrev pub parts_total : ℕ
  parts_total = Σℕ R (λ x. run_count (P x) W)

  module _ (left₀ right₀ : List ℕ) where
    pub record Filling (j : ℕ) (left right : List ℕ) : Type 0 where
      pub parts : Parts R W P part_start j left right
      pub cursors : Cursors R W P part_start j right
      -- the window at j, if there is one, begins a run
      pub fresh : (i : ℕ) → i < R → j < W → P i j ≡ true → before (P i) j ≡ false
      pub in_left : parts_total ≤ length left
      pub in_right : parts_total ≤ length right
      pub past-left : (x : ℕ) → parts_total ≤ x → get_or left x 0 ≡ get_or left₀ x 0
      pub past-right : (x : ℕ) → parts_total ≤ x → get_or right x 0 ≡ get_or right₀ x 0
      pub long-left : length left ≡ length left₀
      pub long-right : length right ≡ length right₀

    -- windows from `from` up to r stand in row i and in no other, and the window at r does not stand in it
    pub record RunOf (i from r : ℕ) : Type 0 where
      pub row : i < R
      pub ahead : from < r
      pub below : r ≤ W
      pub mine : (j : ℕ) → from ≤ j → j < r → P i j ≡ true
      pub others : (j k : ℕ) → from ≤ j → j < r → k < R → (k ≡ i → ⊥) → P k j ≡ false
      pub stops : r < W → P i r ≡ false
