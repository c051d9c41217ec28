-- The candidates as they are handed out: joined runs at the front of a buffer of two slices, and how many runs and offsets they are (01, Candidates).
use Rattle.std.specs.Prelude.{ℕ, eqb, get_or, drop, Bool, List, map, ◌++◌, ◌≡◌}
use Rattle.meaning_numbers.specs.Sum.{count}
use Rattle.meaning_rows.specs.Runs.{runs, run_count}
use Rattle.meaning_rows.proofs.Columns.{lefts, rights}
use Rattle.meaning_entries.specs.Buffers.{filled}

-- offset j stands at p
abbrev pub stood : List ℕ → ℕ → ℕ → Bool
stood scratch p j = eqb (get_or scratch j 0) p

-- the runs of a set of offsets below n at the front of two columns, with what was behind them left there
pub record Columns (set : ℕ → Bool) (n : ℕ) (left₀ right₀ left right : List ℕ) (k found : ℕ) : Type 0 where
  pub count-is : k ≡ run_count set n
  pub found-is : found ≡ count set n
  pub left_is : left ≡ lefts (runs set n) ++ drop k left₀
  pub right_is : right ≡ rights (runs set n) ++ drop k right₀

-- and with 0 behind them
pub record Handed (set : ℕ → Bool) (n : ℕ) (left₀ right₀ left right : List ℕ) (k found : ℕ) : Type 0 where
  pub count-is : k ≡ run_count set n
  pub found-is : found ≡ count set n
  pub left_is : left ≡ filled 0 (map (λ x. x.0) (runs set n)) left₀
  pub right_is : right ≡ filled 0 (map (λ x. x.1) (runs set n)) right₀
