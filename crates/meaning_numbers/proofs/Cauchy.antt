-- Sums and squares: the square of a sum of w numbers is at most w times the sum of their squares.
-- The step asks 2 · x · Σa ≤ w · x² + Σa² (`cross`), which is w times 2 · x · y ≤ x² + y² (`two_products`).
use Rattle.meaning_numbers.specs.Sum.{Σℕ}
use Rattle.meaning_numbers.proofs.Prelude.{ℕ, zero, suc, ◌+◌, ◌-◌, ◌*◌, ◌≤◌, ◌≡◌, dec_le, arith}

above : (x y d : ℕ) → y ≡ x + d → x * y + x * y ≤ x * x + y * y
above x y d e = rw e (omega arith)

pub two_products : (x y : ℕ) → x * y + x * y ≤ x * x + y * y
two_products x y = elim (dec_le x y) [
  | yes h ↦ above x y (y - x) (omega arith)
  | no f ↦ omega (arith, above y x (x - y) (omega arith))
]

cross : (w x : ℕ) (a : ℕ → ℕ) → 2 * (x * Σℕ w a) ≤ w * (x * x) + Σℕ w (λ k. a k * a k)
unfolding Σℕ
cross zero x a = omega arith
cross (suc w) x a = omega (arith, cross w x a, two_products x (a w))

pub cauchy : (w : ℕ) (a : ℕ → ℕ) → Σℕ w a * Σℕ w a ≤ w * Σℕ w (λ k. a k * a k)
unfolding Σℕ
cauchy zero a = omega arith
cauchy (suc w) a = omega (arith, cauchy w a, cross w (a w) a)
