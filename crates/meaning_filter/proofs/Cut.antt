-- The cut. t is the greatest number with t² × A ≤ (100 × |c|)². No root of A is needed: for any K let ρ be the root of K² × A. Then t × ρ ≤ 100 × |c| × K < (t + 1) × (ρ + 1),
-- both by comparing squares (`cut-core`), and the two signs of c give the same bounds around 100 × c × K (`cut_range`).
use Rattle.meaning_numbers.specs.Root.{IsRoot}
use Rattle.meaning_numbers.proofs.Prelude.{ℕ, ◌+◌, ◌*◌, ◌<◌, ◌≤◌, arith, mul-le-mul_left, ℤ, pos, negsuc, ◌+ℤ◌, ◌-ℤ◌, ◌*ℤ◌, rep-self, rep_pos, rep_neg, rep_add, rep-sub, rep_mul, rep-le}
use Rattle.meaning_numbers.proofs.{Root.le-of-sq, Root.le-of-sq-le, Between.Between}
use Rattle.meaning_curves.specs.Normal.{IsCut, signed}

pub cut-core : (g t A K ρ : ℕ) → t * t * A ≤ g * g → g * g < (t + 1) * (t + 1) * A → IsRoot (K * K * A) ρ
    → (t * ρ ≤ g * K) × (g * K ≤ t * ρ + t + ρ)
cut-core g t A K ρ low high i = (
  le-of-sq-le (omega (arith, mul-le-mul_left (t * t) i.low, mul-le-mul_left (K * K) low)),
  le-of-sq (omega (arith, mul-le-mul_left ((t + 1) * (t + 1)) i.high, mul-le-mul_left (K * K) high)),
)

pub cut_range : {A t ρ : ℕ} (K : ℕ) (c : ℤ) → IsCut A c t → IsRoot (K * K * A) ρ
    → Between ((signed c t -ℤ pos 1) *ℤ pos ρ -ℤ pos (t + 1)) (pos (100 * K) *ℤ c) ((signed c t +ℤ pos 1) *ℤ pos ρ +ℤ pos (t + 1))
cut_range {A} {t} {ρ} K (pos x) k i =
    let h = cut-core _ t A K ρ k.low k.high i in
    let N = rep_pos t in
    let mid = rep_mul (rep_pos _) (rep_pos x) in
    record {
      low = rep-le (rep-sub (rep_mul (rep-sub N (rep_pos 1)) (rep_pos ρ)) (rep_pos (t + 1))) mid (omega arith);
      high = rep-le mid (rep_add (rep_mul (rep_add N (rep_pos 1)) (rep_pos ρ)) (rep_pos (t + 1))) (omega arith);
    }
cut_range {A} {t} {ρ} K (negsuc x) k i =
    let h = cut-core _ t A K ρ k.low k.high i in
    let N = rep_neg (rep_pos t) in
    let mid = rep_mul (rep_pos _) (rep-self (negsuc x)) in
    record {
      low = rep-le (rep-sub (rep_mul (rep-sub N (rep_pos 1)) (rep_pos ρ)) (rep_pos (t + 1))) mid (omega arith);
      high = rep-le mid (rep_add (rep_mul (rep_add N (rep_pos 1)) (rep_pos ρ)) (rep_pos (t + 1))) (omega arith);
    }
