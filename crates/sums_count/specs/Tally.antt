-- Rising tables, and the runs of each row counted. A turn of the pass takes a whole run in.
use Rattle.std.specs.Prelude.{ℕ, ◌<◌, eqb, length, get_or, Bool, List, ◌≡◌}
use Rattle.meaning_rows.specs.Runs.{run_count}

-- the first n numbers ascend
pub record Rising (t : List ℕ) (n : ℕ) : Type 0 where
  pub up : (i k : ℕ) → i < k → k < n → get_or t i 0 < get_or t k 0

-- k is one of the first n numbers
pub record Has (t : List ℕ) (n k : ℕ) : Type 0 where
  pub at : ℕ
  pub below : at < n
  pub is : get_or t at 0 ≡ k

-- window j has row number k
unfoldable pub is_row : (ℕ → ℕ) → ℕ → ℕ → Bool
is_row row k j = eqb (row j) k

-- beside each number of the table stands how many runs the windows below j have of it
pub record Counted (row : ℕ → ℕ) (j : ℕ) (t counts : List ℕ) : Type 0 where
  pub count : (i : ℕ) → i < length t → get_or counts i 0 ≡ run_count (is_row row (get_or t i 0)) j
