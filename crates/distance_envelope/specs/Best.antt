-- The least or the greatest of the values at some places, by what it is: the value at one of them, and at least as far out as each (`Best`). One lemma serves both ends: `pick` takes the one that is further out, and two stretches of places that touch join.
-- Windows that reach n places ahead, or back, grow by as much as they are long, and one way after the other gives the envelope.
use Rattle.std.specs.Prelude.{ℕ, ◌≤◌, ℤ, ◌≤ℤ◌, Bool, true, false, ◌≡◌}
use Rattle.meaning_numbers.specs.Order.{minℤ, maxℤ}
use Rattle.meaning_filter.specs.Envelope.{lower, upper}

-- the lesser of two, or the greater
abbrev pub pick : Bool → ℤ → ℤ → ℤ
pick true x y = minℤ x y
pick false x y = maxℤ x y

-- the lower envelope, or the upper
abbrev pub edge : Bool → (ℕ → ℤ) → ℕ → ℕ → ℕ → ℤ
edge true q m b i = lower q m b i
edge false q m b i = upper q m b i

-- x lies as far out as y
abbrev pub out : Bool → ℤ → ℤ → Type 0
out true x y = x ≤ℤ y
out false x y = y ≤ℤ x

-- ---- of the places from lo to hi

pub record Best (t : Bool) (q : ℕ → ℤ) (lo hi : ℕ) (z : ℤ) : Type 0 where
  pub place : ℕ
  pub from : lo ≤ place
  pub to : place ≤ hi
  pub same : z ≡ q place
  pub all : (j : ℕ) → lo ≤ j → j ≤ hi → out t z (q j)
