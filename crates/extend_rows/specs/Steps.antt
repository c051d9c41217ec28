-- What adding up the counts of an extension's rows asks.
use Rattle.std.specs.Prelude.{ℕ, ◌<◌, ◌≤◌, ltb, ℤ, length, get_or, Bool, true, cond, List, ◌≡◌}
use Rattle.meaning_rows.specs.declared.Row.{Row}
use Rattle.meaning_rows.proofs.Grown.{last_ends}
use Rattle.sums_slide.specs.Levels.{windows_of}
use Rattle.rows_pack.specs.Packed.{total}
use Rattle.extend_new.specs.New.{less_join}

-- the first new window; 0, where no run ends, if no window is new
unfoldable pub first_new : List ℤ → ℕ → ℕ → ℕ
first_new s w old = cond (ltb old (windows_of s w)) old 0

-- the last run of row r ends right before the first new window
unfoldable pub joins_of : List ℤ → ℕ → ℕ → Row → List ℕ → Bool
joins_of s w old r right = last_ends r right (first_new s w old)

-- what adding up the counts asks, where the count of row i is one less if the first new run joins
pub record SumAsked (joins : Bool) (i : ℕ) (counts : List ℕ) (count : ℕ) : Type 0 where
  pub fits : count ≤ length counts
  pub has : joins ≡ true → (i < length counts) × (1 ≤ get_or counts i 0)
  pub small : total (less_join joins i counts) count ≤ 4294967295
