-- The candidates are handed out as joined runs: ascending, not touching, below n - m + 1 (`runs-apart`); an offset stands in one of them exactly if it is a candidate (`runs-hold`); and their lengths add up to the number of candidates (`runs-count`). These are the laws of runs at the candidates.
use Rattle.meaning_numbers.proofs.Count.{count-cong}
use Rattle.meaning_numbers.proofs.Prelude.{◌≡◌, ◌∙◌, ◌&&◌, map, ℕ, lt-ltb, ltb}
use Rattle.meaning_rows.specs.{Index.Index, Judge.run_lengths, Build.entry}
use Rattle.meaning_filter.specs.Matches.{Question, offset_count, candidate_at, candidate_runs, candidate_count}
use Rattle.meaning_rows.proofs.Runs as Runs

module _ (x : Index) (z : Question) where
  pub runs-apart : Runs.Apart (offset_count z) 0 (candidate_runs x z)
  unfolding candidate_runs
  runs-apart = Runs.runs-apart _ _

  pub runs-hold : (j : ℕ) → Runs.held (candidate_runs x z) j ≡ (ltb j (offset_count z) && candidate_at x z j)
  unfolding candidate_runs
  runs-hold j = Runs.runs-hold _ _ j

  pub runs-count : run_lengths (map entry (candidate_runs x z)) ≡ candidate_count x z
  unfolding candidate_count
  runs-count =
      Runs.lengths-count _ 0 _ runs-apart
      ∙ count-cong _ _ _ (λ j l. runs-hold j ∙ rw (lt-ltb j _ l))
