-- `spread` is the formula of document 01 over whole numbers, A = m × Σs² - T × T (`spread-is`): the difference is cut at 0 nowhere, as |Σs| ≤ Σ|s| (`sizes`) and, by Cauchy, (Σ|s|)² ≤ m × Σ|s|².
use Rattle.meaning_numbers.specs.Sum.{Σℤ, Σℕ, square}
use Rattle.meaning_numbers.proofs.Prelude.{◌≡◌, refl, ℕ, zero, suc, ◌-◌, ◌*◌, ◌≤◌, arith, ℤ, pos, negsuc, ◌+ℤ◌, ◌-ℤ◌, ◌*ℤ◌, nat_abs, rep_pos, rep-sub, rep_mul, rep-eq, z-add, z-abs}
use Rattle.meaning_numbers.proofs.{Cauchy.cauchy, Root.sq-le}
use Rattle.meaning_curves.specs.Curve.{total, spread}

-- a square of a whole number is the square of its size
pub squareℤ : (z : ℤ) → z *ℤ z ≡ pos (square (nat_abs z))
squareℤ (pos n) = refl
squareℤ (negsuc n) = refl

pub squares : (m : ℕ) (s : ℕ → ℤ) → Σℤ m (λ k. s k *ℤ s k) ≡ pos (Σℕ m (λ k. square (nat_abs (s k))))
unfolding Σℤ Σℕ
squares zero s = refl
squares (suc m) s = rw (squares m s, squareℤ (s m))

-- the size of a sum is at most the sum of the sizes
pub sizes : (m : ℕ) (s : ℕ → ℤ) → nat_abs (Σℤ m s) ≤ Σℕ m (λ k. nat_abs (s k))
unfolding Σℤ Σℕ
sizes zero s = omega arith
sizes (suc m) s = omega (arith, sizes m s, z-add (Σℤ m s) (s m), z-abs (Σℤ m s +ℤ s m), z-abs (Σℤ m s), z-abs (s m))

pub spread-is : (s : ℕ → ℤ) (m : ℕ) → pos (spread s m) ≡ pos m *ℤ Σℤ m (λ k. s k *ℤ s k) -ℤ total s m *ℤ total s m
unfolding spread
spread-is s m =
    let Q = Σℕ m (λ k. square _) in
    rw (squares m s, squareℤ _)
    (rep-eq (rep_pos _) (rep-sub (rep_mul (rep_pos m) (rep_pos Q)) (rep_pos (square (nat_abs (total s m)))))
    (omega (arith, sq-le (sizes m s), cauchy m (λ k. nat_abs (s k)))))
