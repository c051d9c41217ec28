-- A sum that a loop makes in blocks, each at most `most` a term: so much of it is made (`Made`), a block more (`made_more`), and the two ways out (`made-left`, `made-whole`).
use Rattle.meaning_numbers.specs.Sum.{Σℕ}
use Rattle.meaning_numbers.proofs.Sum.{Σℕ-none, Σℕ-split, Σℕ-fewer}
use Rattle.meaning_numbers.proofs.Prelude.{◌≡◌, sym, ℕ, ◌+◌, ◌*◌, ◌<◌, ◌≤◌, arith}
use Rattle.numbers.specs.Within.{Within}
use Rattle.numbers.proofs.Within.{whole, left-early}

-- the total is the sum of the first i terms
pub record Made (f : ℕ → ℕ) (most i total : ℕ) : Type 0 where
  pub sum : total ≡ Σℕ i f
  pub small : total ≤ most * i

pub made_none : (f : ℕ → ℕ) (most : ℕ) → Made f most 0 0
made_none f most = record { sum = sym (Σℕ-none f); small = omega arith }

pub made_more : {f : ℕ → ℕ} {most i total : ℕ} (n p : ℕ) → Made f most i total → p ≡ Σℕ n (λ k. f (i + k)) → p ≤ most * n → Made f most (i + n) (total + p)
made_more {f} {most} {i} n p d e h = record { sum = omega (arith, Σℕ-split i n f); small = omega arith }

pub made-left : {f : ℕ → ℕ} {most i total m limit : ℕ} → Made f most i total → i ≤ m → limit < total → Within (Σℕ m f) limit total
made-left {f} {most} {i} {total} {m} d h k = left-early (omega (arith, Σℕ-fewer i m f h)) k

pub made-whole : {f : ℕ → ℕ} {most i total m limit : ℕ} → Made f most i total → i ≡ m → Within (Σℕ m f) limit total
made-whole d e = whole (rw e at d.sum)
