-- Normalised values, in hundredths cut toward zero.
use Rattle.std.specs.Prelude.{ℕ, ◌+◌, ◌*◌, ◌/◌, ◌<◌, ◌≤◌, eqb, ℤ, pos, negsuc, neg_ℤ, ◌-ℤ◌, ◌*ℤ◌, nat_abs, Bool}
use Rattle.meaning_numbers.specs.{Sum.square, Root.root}
use Rattle.meaning_curves.specs.Curve.{total, spread}

-- 01, Distances: c = m × s(j) - T
abbrev pub centred : (ℕ → ℤ) → ℕ → ℕ → ℤ
centred s m j = pos m *ℤ s j -ℤ total s m

-- t is the greatest with t × t × A at most (100 × c)²
pub record IsCut (A : ℕ) (c : ℤ) (t : ℕ) : Type 0 where
  pub low : t * t * A ≤ square (100 * nat_abs c)
  pub high : square (100 * nat_abs c) < (t + 1) * (t + 1) * A

-- that t, computed, for A above 0 (law: `cut-is`)
unfoldable pub cut : ℕ → ℤ → ℕ
cut A c = root (square (100 * nat_abs c) / A)

-- t with the sign of c
abbrev pub signed : ℤ → ℕ → ℤ
signed (pos x) t = pos t
signed (negsuc x) t = neg_ℤ (pos t)

-- 01, Distances: the normalised value at j of a curve of m values that is not flat
unfoldable pub normalised : (ℕ → ℤ) → ℕ → ℕ → ℤ
normalised s m j = signed (centred s m j) (cut (spread s m) (centred s m j))

-- 01, Distances: a stretch with A = 0 is flat
abbrev pub flat : (ℕ → ℤ) → ℕ → Bool
flat s m = eqb (spread s m) 0
