-- Rows of a build that stand packed in records: their ranges hold the windows, so the rows can be named and, with the names in their parts, merged. The rows of a build are so
-- before merging and after it, so what is merged stands packed again as rows by ranges.
use Rattle.std.specs.Prelude.{ℕ, ◌<◌, ◌≤◌, ℤ, length, true, List, map, ◌≡◌}
use Rattle.meaning_numbers.proofs.Member.{All}
use Rattle.meaning_rows.specs.{Index.all_runs, Build.SetRow, Build.with_runs}
use Rattle.meaning_rows.proofs.Build.{Tiled, Ends, holds_sum}
use Rattle.build_names.specs.Ranges.{Limited}

-- rows of n windows: they tile them, hold each, have ends that can be raised, and no more runs than windows
pub record Sound (sum : ℕ → ℤ) (n : ℕ) (l : List SetRow) : Type 0 where
  pub tiled : Tiled sum n l
  pub covers : (j : ℕ) → j < n → holds_sum (sum j) l ≡ true
  pub ends : All (Ends Limited) l
  pub few : length l ≤ n
  pub total : length (all_runs (map (with_runs n) l)) ≤ n
