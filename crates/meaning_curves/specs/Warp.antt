-- The warped distance by paths: 'least total of squared differences over paths from pair (0, 0) to pair (m-1, m-1), each step adding 1 to the first place,
-- the second or both, every pair (i, j) having |i - j| at most b' (01, Distances). `Table` computes it (law: `warped-is`).
use Rattle.std.specs.Prelude.{ℕ, suc, ◌+◌, ◌-◌, ◌≤◌, ℤ}
use Rattle.meaning_curves.specs.Straight.{cost}

-- |i - j| is at most b
pub record Near (b i j : ℕ) : Type 0 where
  pub first : i ≤ j + b
  pub second : j ≤ i + b

-- a path from (0, 0) to (i, j), and its total t: the squared differences of its pairs, added up
pub data WarpPath (s q : ℕ → ℤ) (b : ℕ) : ℕ → ℕ → ℕ → Type 0 where
  start : WarpPath s q b 0 0 (cost (s 0) (q 0))
  first : {i j t : ℕ} → WarpPath s q b i j t → Near b (suc i) j → WarpPath s q b (suc i) j (t + cost (s (suc i)) (q j))
  second : {i j t : ℕ} → WarpPath s q b i j t → Near b i (suc j) → WarpPath s q b i (suc j) (t + cost (s i) (q (suc j)))
  both : {i j t : ℕ} → WarpPath s q b i j t → Near b (suc i) (suc j) → WarpPath s q b (suc i) (suc j) (t + cost (s (suc i)) (q (suc j)))

-- d is the warped distance of m values: the total of a path to the last pair, and no path to it has a lesser one
pub record IsWarped (s q : ℕ → ℤ) (b m d : ℕ) : Type 0 where
  pub attained : WarpPath s q b (m - 1) (m - 1) d
  pub least : (t : ℕ) → WarpPath s q b (m - 1) (m - 1) t → d ≤ t
