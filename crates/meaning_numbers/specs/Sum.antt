-- Sums over the indices below n, and how many of them pass a test.
use Rattle.std.specs.Prelude.{ℕ, zero, suc, ◌+◌, ◌*◌, ℤ, pos, ◌+ℤ◌, Bool, true, false}

-- f(0) + .. + f(n - 1), of whole numbers
unfoldable pub Σℤ : ℕ → (ℕ → ℤ) → ℤ
Σℤ zero f = pos 0
Σℤ (suc n) f = Σℤ n f +ℤ f n

-- f(0) + .. + f(n - 1), of natural numbers
unfoldable pub Σℕ : ℕ → (ℕ → ℕ) → ℕ
Σℕ zero f = 0
Σℕ (suc n) f = Σℕ n f + f n

-- one for true
unfoldable pub bit : Bool → ℕ
bit true = 1
bit false = 0

-- how many j below n pass the test
unfoldable pub count : (ℕ → Bool) → ℕ → ℕ
count p zero = 0
count p (suc n) = count p n + bit (p n)

abbrev pub square : ℕ → ℕ
square n = n * n
