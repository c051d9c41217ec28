-- A normalised value by one multiplication and one test. With F the root of 2^62 / A, and g = 100 × |c| below 2^31, the number e = g × F / 2^31 is the cut or one less than it: it is never too large, since F² × A ≤ 2^62, and e + 2 always is, since 2^62 < (F + 1)² × A.
-- The cut is determined by its two inequalities.
use Rattle.std.specs.Prelude.{ℕ, ◌+◌, ◌*◌, ◌<◌, ◌≤◌, ℤ}
use Rattle.meaning_curves.specs.Normal.{cut, signed}

-- a normalised value, of the spread A and the centred value c
unfoldable pub normal : ℕ → ℤ → ℤ
normal A c = signed c (cut A c)

pub record IsFactor (A F : ℕ) : Type 0 where
  pub low : F * F * A ≤ 4611686018427387904
  pub high : 4611686018427387904 < (F + 1) * (F + 1) * A

-- the cut of |c| = d
pub record CutOf (A d t : ℕ) : Type 0 where
  pub low : t * t * A ≤ 100 * d * (100 * d)
  pub high : 100 * d * (100 * d) < (t + 1) * (t + 1) * A
