-- What the passes over a list do: each value becomes the pick of itself and the one d places ahead, or back, where there is one (`PassAhead`, `PassBack`). After passes that add up to n each value is the best of the n places ahead, or back, and itself (`Ahead`, `Back`).
use Rattle.std.specs.Prelude.{ℕ, ◌+◌, ◌-◌, ◌<◌, ◌≤◌, min, ℤ, length, Bool, List, ◌≡◌}
use Rattle.meaning_curves.specs.Curve.{at}
use Rattle.distance_envelope.specs.Best.{pick, Best}

-- ---- one pass

pub record PassAhead (t : Bool) (d : ℕ) (old new : List ℤ) : Type 0 where
  pub long : length new ≡ length old
  pub moved : (i : ℕ) → i + d < length old → at new i ≡ pick t (at old i) (at old (i + d))
  pub kept : (i : ℕ) → length old ≤ i + d → at new i ≡ at old i

pub record PassBack (t : Bool) (d : ℕ) (old new : List ℤ) : Type 0 where
  pub long : length new ≡ length old
  pub moved : (i : ℕ) → i < length old → d ≤ i → at new i ≡ pick t (at old (i - d)) (at old i)
  pub kept : (i : ℕ) → i < length old → i < d → at new i ≡ at old i

-- ---- passes that add up to n

pub record Ahead (t : Bool) (n : ℕ) (old new : List ℤ) : Type 0 where
  pub long : length new ≡ length old
  pub best : (i : ℕ) → i < length old → Best t (at old) i (min (i + n) (length old - 1)) (at new i)

pub record Back (t : Bool) (n : ℕ) (old new : List ℤ) : Type 0 where
  pub long : length new ≡ length old
  pub best : (i : ℕ) → i < length old → Best t (at old) (i - n) i (at new i)
