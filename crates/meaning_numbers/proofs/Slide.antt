-- A sum over the places from one on, moved by one place: what enters is added, what leaves is taken away (`Σℕ-slide`, `Σℤ-slide`). One term of a sum of naturals is at most the whole (`Σℕ-term`).
use Rattle.meaning_numbers.specs.Sum.{Σℤ, Σℕ}
use Rattle.meaning_numbers.proofs.Rep.{zarith, z-add, z-eq}
use Rattle.meaning_numbers.proofs.Prelude.{ℕ, zero, suc, ◌+◌, ◌<◌, ◌≤◌, ℤ, ◌+ℤ◌, ◌≡◌, refl, dec_le, add-zero, arith}

pub Σℕ-slide : (g : ℕ → ℕ) (from m : ℕ) → Σℕ m (λ k. g (from + 1 + k)) + g from ≡ Σℕ m (λ k. g (from + k)) + g (from + m)
unfolding Σℕ
Σℕ-slide g from zero = rw add-zero (omega arith)
Σℕ-slide g from (suc m) = let e : from + 1 + m ≡ from + suc m = omega arith in rw e (omega (arith, Σℕ-slide g from m))

pub Σℤ-slide : (g : ℕ → ℤ) (from m : ℕ) → Σℤ m (λ k. g (from + 1 + k)) +ℤ g from ≡ Σℤ m (λ k. g (from + k)) +ℤ g (from + m)
unfolding Σℤ
Σℤ-slide g from zero = rw add-zero refl
Σℤ-slide g from (suc m) =
    let e : from + 1 + m ≡ from + suc m = omega arith in
    let new = Σℤ m (λ k. g (from + 1 + k)) in
    let old = Σℤ m (λ k. g (from + k)) in
    let x = g (from + suc m) in
    let y = g (from + m) in
    rw e (omega (zarith, z-eq (Σℤ-slide g from m), z-add new (g from), z-add old y, z-add new x, z-add (new +ℤ x) (g from), z-add (old +ℤ y) x))

pub Σℕ-term : (n k : ℕ) (f : ℕ → ℕ) → k < n → f k ≤ Σℕ n f
unfolding Σℕ
Σℕ-term zero k f h = absurd (omega arith)
Σℕ-term (suc n) k f h = elim (dec_le (suc k) n) [
  | yes l ↦ omega (arith, Σℕ-term n k f l)
  | no l ↦ let e : k ≡ n = omega arith in rw e (omega arith)
]
