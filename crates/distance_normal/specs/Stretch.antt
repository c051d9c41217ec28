-- The normalised values of a stretch, in room that is lent: what making them asks, some of them made, all of them made. They are in the limits of values.
use Rattle.std.specs.Prelude.{ℕ, ◌+◌, ◌<◌, ◌≤◌, ℤ, pos, length, get_or, List, ◌≡◌}
use Rattle.meaning_curves.specs.{Curve.stretch, Curve.spread, Normal.normalised}
use Rattle.meaning_curves.proofs.Values.{AllIn}
use Rattle.values.specs.Sums.{AreSums}

-- the stretch of m values from `from` on is not flat, and its raised sums and its spread are known
pub record NormalReady (s : List ℤ) (from m values squares A : ℕ) : Type 0 where
  pub in-series : from + m ≤ length s
  pub short : m ≤ 1024
  pub values-in : AllIn s
  pub sums : AreSums s from m values squares
  pub spread-is : A ≡ spread (stretch s from) m
  pub some : 0 < A

-- the n normalised values from place p on are made, and those before it stay
pub record NormalPart (s : ℕ → ℤ) (m p n : ℕ) (old new : List ℤ) : Type 0 where
  pub long : length new ≡ length old
  pub kept : (k : ℕ) → k < p → get_or new k (pos 0) ≡ get_or old k (pos 0)
  pub made : (k : ℕ) → k < n → get_or new (p + k) (pos 0) ≡ normalised s m (p + k)

-- all of them are made
pub record Normalised (s : ℕ → ℤ) (m : ℕ) (out : List ℤ) : Type 0 where
  pub long : length out ≡ m
  pub at : (k : ℕ) → k < m → get_or out k (pos 0) ≡ normalised s m k
