-- A curve is its value at each place. A stretch or a query has m values; what stands past them is asked by nothing.
use Rattle.std.specs.Prelude.{ℕ, ◌+◌, ◌-◌, ◌*◌, ℤ, pos, nat_abs, get_or, List}
use Rattle.meaning_numbers.specs.Sum.{Σℤ, Σℕ, square}

-- the values of a list, by place
abbrev pub at : List ℤ → ℕ → ℤ
at l k = get_or l k (pos 0)

-- 01, Candidates: the stretch of offset j is the values from place j on
abbrev pub stretch : List ℤ → ℕ → ℕ → ℤ
stretch s j k = get_or s (j + k) (pos 0)

-- 01, Rows: window j has the sum of its w values
unfoldable pub window_sum : List ℤ → ℕ → ℕ → ℤ
window_sum s w j = Σℤ w (stretch s j)

-- how many windows of length w a series of n values has
abbrev pub window_count : ℕ → ℕ → ℕ
window_count n w = n + 1 - w

-- 01, Distances: T = sum of s
abbrev pub total : (ℕ → ℤ) → ℕ → ℤ
total s m = Σℤ m s

-- 01, Distances: A = m × (sum of squares) - T × T, which is never negative (law: `spread-is`)
unfoldable pub spread : (ℕ → ℤ) → ℕ → ℕ
spread s m = m * Σℕ m (λ k. square (nat_abs (s k))) - square (nat_abs (total s m))
