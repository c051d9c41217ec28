-- How many leading parts an offset meets, of the first so many: what the scratch count holds (01, Candidates). An offset that stands in two rows of a wrong index counts once.
use Rattle.meaning_numbers.proofs.Prelude.{◌≡◌, cond, List, ℕ, zero, suc, ◌+◌, ◌*◌, ltb, ℤ, nat_abs, get_or}
use Rattle.meaning_rows.specs.Index.{Index}
use Rattle.meaning_filter.specs.Candidates.{admits}
use Rattle.candidate_counts.specs.Raise.{bump}

-- of the first i parts, whose ranges are given: part i counts where all parts before it do, and its window, i windows on, stands in a row that its range meets
unfoldable pub leading : Index → (ℕ → ℤ × ℤ) → ℕ → ℕ → ℕ
leading x range zero j = 0
leading x range (suc i) j = bump (admits x (range i) (j + i * nat_abs x.window)) i (leading x range i j)

-- the scratch count after i parts: of each offset how many of them lead, and 0 at every other place
pub record Counted (x : Index) (range : ℕ → ℤ × ℤ) (offsets i : ℕ) (scratch : List ℕ) : Type 0 where
  pub at : (j : ℕ) → get_or scratch j 0 ≡ cond (ltb j offsets) (leading x range i j) 0
