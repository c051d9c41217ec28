-- The numbers from one on that pass a test, ascending.
use Rattle.std.specs.Prelude.{ℕ, zero, suc, ◌+◌, length, take, Bool, cond, List, [], ◌∷◌, ◌++◌, ◌≡◌}

-- of the m numbers from base on
unfoldable pub picked : (ℕ → Bool) → ℕ → ℕ → List ℕ
picked p base zero = []
picked p base (suc m) = cond (p (base + m)) (picked p base m ++ ((base + m) ∷ [])) (picked p base m)

-- l is written behind the first k, and nothing in front of it is changed; r stand there then
pub record Appended (l : List ℕ) (k r : ℕ) (old new : List ℕ) : Type 0 where
  pub count : r ≡ k + length l
  pub long : length new ≡ length old
  pub front : take r new ≡ take k old ++ l
