-- Some offsets taken in behind what was handed out: a stretch of the loop that writes the runs.
use Rattle.std.specs.Prelude.{ℕ, ◌+◌, ◌≤◌, length, Bool, List, ◌≡◌}
use Rattle.meaning_numbers.specs.Sum.{bit, count}
use Rattle.meaning_rows.proofs.Columns.{Filling}
use Rattle.candidate_counts.specs.declared.Found.{Found}

-- there is room for n offsets from `from` on, behind what was handed out of those before
pub record TakeReady (scratch : List ℕ) (from n : ℕ) (out : Found) (left right : List ℕ) : Type 0 where
  pub in-scratch : from + n ≤ length scratch
  pub in_left : from + n ≤ length left
  pub in_right : from + n ≤ length right
  pub short : from + n ≤ 1048576
  pub few : out.runs ≤ from
  pub fewer : out.candidates ≤ from
  pub begun : bit out.going ≤ out.runs

-- where the runs of a set's offsets below `from` were handed out, so are those of its offsets below from + n
pub record Took (set : ℕ → Bool) (from n : ℕ) (a b : Found) (left right left' right' : List ℕ) : Type 0 where
  pub counted : a.candidates ≡ count set from → b.candidates ≡ count set (from + n)
  pub filling : (left₀ right₀ : List ℕ) → from + n ≤ length left₀ → from + n ≤ length right₀ → Filling set left₀ right₀ from a.runs a.going left right
      → Filling set left₀ right₀ (from + n) b.runs b.going left' right'
