-- The envelope of a query: at each place the least and the greatest query value within b places that exist (01, Candidates).
use Rattle.std.specs.Prelude.{ℕ, zero, suc, ◌+◌, ◌-◌, min, ℤ}
use Rattle.meaning_numbers.specs.Order.{minℤ, maxℤ}

-- the least of the values at the n + 1 places from k on
unfoldable pub least_of : (ℕ → ℤ) → ℕ → ℕ → ℤ
least_of q k zero = q k
least_of q k (suc n) = minℤ (least_of q k n) (q (k + suc n))

-- the greatest of them
unfoldable pub greatest_of : (ℕ → ℤ) → ℕ → ℕ → ℤ
greatest_of q k zero = q k
greatest_of q k (suc n) = maxℤ (greatest_of q k n) (q (k + suc n))

-- the places within b of i, of the m that there are, begin at i - b and are one more than this
abbrev pub reach_of : ℕ → ℕ → ℕ → ℕ
reach_of m b i = min (i + b) (m - 1) - (i - b)

-- lower envelope
unfoldable pub lower : (ℕ → ℤ) → ℕ → ℕ → ℕ → ℤ
lower q m b i = least_of q (i - b) (reach_of m b i)

-- upper envelope
unfoldable pub upper : (ℕ → ℤ) → ℕ → ℕ → ℕ → ℤ
upper q m b i = greatest_of q (i - b) (reach_of m b i)
