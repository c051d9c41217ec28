-- The straight distance.
use Rattle.std.specs.Prelude.{ℕ, ℤ, ◌-ℤ◌, nat_abs}
use Rattle.meaning_numbers.specs.Sum.{Σℕ, square}

-- the squared difference of two values
abbrev pub cost : ℤ → ℤ → ℕ
cost x y = square (nat_abs (x -ℤ y))

-- 01, Distances: sum of squared differences, no root taken
unfoldable pub straight : (s q : ℕ → ℤ) → ℕ → ℕ
straight s q m = Σℕ m (λ k. cost (s k) (q k))
