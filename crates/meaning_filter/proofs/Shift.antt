-- The shift: from bounds of 100 × (m × S - w × T) to a range of the part's sum S. T is within m × h of T(q), so 100 × m × S lies between numbers that the query gives, and as S is whole their quotients by 100 × m may be rounded inward.
use Rattle.meaning_numbers.specs.Quotient.{floorℤ, ceilℤ}
use Rattle.meaning_numbers.proofs.Quotient.{floor-most, ceil-least}
use Rattle.meaning_numbers.proofs.Prelude.{ℕ, ◌+◌, ◌*◌, ◌<◌, ◌≤◌, arith, mul-le-mul_left, ℤ, pos, ◌+ℤ◌, ◌-ℤ◌, ◌*ℤ◌, nat_abs, ◌≤ℤ◌, up, dn, rep-self, rep_pos, rep_add, rep-sub, rep_mul, rep-le, le-rep, zarith, z-sub, z-abs}

-- S and T are the stretch's sums, of the part and of all, and Q is T(q); M bounds 100 × (m × S - w × T)
module _ (m w h : ℕ) (S T Q M : ℤ) (long : 0 < m) (near : nat_abs (T -ℤ Q) ≤ m * h) where
  pub shift-low : M ≤ℤ (pos 100 *ℤ (pos m *ℤ S -ℤ pos w *ℤ T)) → ceilℤ (M +ℤ pos (100 * w) *ℤ (Q -ℤ pos (m * h))) (100 * m) ≤ℤ S
  shift-low le =
      let k : up Q + dn T ≤ up T + dn Q + m * h = omega (zarith, z-abs (T -ℤ Q), z-sub T Q) in
      let R = rep-self S in
      let a = le-rep (rep-self M) (rep_mul (rep_pos 100) (rep-sub (rep_mul (rep_pos m) R) (rep_mul (rep_pos w) (rep-self T)))) le in
      ceil-least S _ _ (omega arith)
      (rep-le (rep_add (rep-self M) (rep_mul (rep_pos _) (rep-sub (rep-self Q) (rep_pos (m * h))))) (rep_mul R (rep_pos _)) (omega (arith, mul-le-mul_left w k)))

  pub shift-high : (pos 100 *ℤ (pos m *ℤ S -ℤ pos w *ℤ T)) ≤ℤ M → S ≤ℤ floorℤ (M +ℤ pos (100 * w) *ℤ (Q +ℤ pos (m * h))) (100 * m)
  shift-high le =
      let k : up T + dn Q ≤ up Q + dn T + m * h = omega (zarith, z-abs (T -ℤ Q), z-sub T Q) in
      let R = rep-self S in
      let a = le-rep (rep_mul (rep_pos 100) (rep-sub (rep_mul (rep_pos m) R) (rep_mul (rep_pos w) (rep-self T)))) (rep-self M) le in
      floor-most S _ _ (omega arith)
      (rep-le (rep_mul R (rep_pos _)) (rep_add (rep-self M) (rep_mul (rep_pos _) (rep_add (rep-self Q) (rep_pos (m * h))))) (omega (arith, mul-le-mul_left w k)))
