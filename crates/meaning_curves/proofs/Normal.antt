-- Normalised values. `cut` is the number that `IsCut` describes (`cut-is`), by the laws of the root and of the quotient, and the only one (`cut-only`); so a normalised value is the one that document 01 describes (`normalised-is`).
use Rattle.meaning_numbers.specs.Sum.{square}
use Rattle.meaning_numbers.proofs.Root.{root_is, sq-le}
use Rattle.meaning_numbers.proofs.Prelude.{◌≡◌, refl, ℕ, ◌+◌, ◌*◌, ◌/◌, ◌<◌, ◌≤◌, arith, le-div_iff_mul-le, div-lt_iff_lt-mul, mul-le-mul_right, dec_le, ℤ, nat_abs}
use Rattle.meaning_curves.specs.{Curve.spread, Normal.centred, Normal.IsCut, Normal.cut, Normal.signed, Normal.normalised}

pub cut-is : {A : ℕ} (c : ℤ) → 0 < A → IsCut A c (cut A c)
unfolding cut
cut-is {A} c h =
    let i = root_is ((square (100 * nat_abs c)) / A) in
    record { low = (le-div_iff_mul-le h).0 i.low; high = (div-lt_iff_lt-mul h).0 i.high }

-- what does not pass is at most the greatest
cut_most : {A t u : ℕ} {c : ℤ} → IsCut A c t → IsCut A c u → u ≤ t
cut_most {A} {t} {u} {c} i k = elim (dec_le u t) [
  | yes l ↦ l
  | no f ↦ absurd (omega (arith, i.high, k.low, mul-le-mul_right A (sq-le {x = t + 1} {y = u} (omega arith))))
]

pub cut-only : {A t u : ℕ} {c : ℤ} → IsCut A c t → IsCut A c u → t ≡ u
cut-only i k = omega (arith, cut_most i k, cut_most k i)

pub normalised-is : (s : ℕ → ℤ) (m j : ℕ) → 0 < spread s m → (t : ℕ) × IsCut (spread s m) (centred s m j) t × (normalised s m j ≡ signed (centred s m j) t)
unfolding normalised
normalised-is s m j h = (cut _ _, cut-is _ h, refl)
