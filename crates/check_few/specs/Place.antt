-- The place of a match that is later than all others, among distances that never fall (`Behind`), and an entry put into a column (`Inserted`).
use Rattle.std.specs.Prelude.{ℕ, suc, ◌-◌, ◌<◌, ◌≤◌, length, get_or, List, ◌≡◌}
use Rattle.meaning_filter.proofs.Closest.{Sooner, Later}

-- a match of distance d comes behind the last of the first r, and before the next, if there is one below n
pub record Behind (l : List ℕ) (n d r : ℕ) : Type 0 where
  pub inside : r ≤ n
  pub last : 0 < r → Later d (get_or l (r - 1) 0)
  pub next : r < n → Sooner d (get_or l r 0)

-- x stands at p, and what stood from there up to n has moved up by one
pub record Inserted (p n x : ℕ) (old new : List ℕ) : Type 0 where
  pub long : length new ≡ length old
  pub before : (i : ℕ) → i < p → get_or new i 0 ≡ get_or old i 0
  pub here : get_or new p 0 ≡ x
  pub moved : (i : ℕ) → p ≤ i → i < n → get_or new (suc i) 0 ≡ get_or old i 0
