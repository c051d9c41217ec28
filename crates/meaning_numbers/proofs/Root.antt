-- `root` is the whole square root (`root_is`), the greatest number whose square does not pass (`root-most`), and the only such number (`root-only`).
use Rattle.meaning_numbers.specs.Root.{IsRoot, next_bit, root_within, root}
use Rattle.meaning_numbers.proofs.Prelude.{ℕ, zero, suc, ◌+◌, ◌*◌, ◌/◌, ◌<◌, ◌≤◌, T, ltb→lt, nltb→le, Bool, true, false, not, ◌≡◌, dec_le, mul-le-mul, arith}

-- ---- squares keep and reflect the order

pub sq-le : {x y : ℕ} → x ≤ y → x * x ≤ y * y
sq-le h = mul-le-mul h h

pub le-of-sq : {x r : ℕ} → x * x < (r + 1) * (r + 1) → x ≤ r
le-of-sq {x} {r} h = elim (dec_le x r) [ yes l ↦ l | no f ↦ absurd (omega (arith, sq-le {x = r + 1} {y = x} (omega arith))) ]

pub le-of-sq-le : {x r : ℕ} → x * x ≤ r * r → x ≤ r
le-of-sq-le {x} {r} h = le-of-sq (omega arith)

pub root-most : {x y r : ℕ} → IsRoot y r → x * x ≤ y → x ≤ r
root-most {x} {y} {r} i h = le-of-sq (omega arith)

pub root-only : {y r t : ℕ} → IsRoot y r → IsRoot y t → r ≡ t
root-only {y} {r} {t} i k = omega (arith, root-most i k.low, root-most k i.low)

-- ---- the root by bits

next-bit-is : (t : Bool) (y r : ℕ) → (T t → y < (r + 1) * (r + 1)) → (T (not t) → (r + 1) * (r + 1) ≤ y) → r * r ≤ y → y < (r + 2) * (r + 2) → IsRoot y (next_bit t r)
unfolding next_bit
next-bit-is true y r f g l h = record { low = l; high = f tt }
next-bit-is false y r f g l h = record { low = g tt; high = omega arith }

root-within-is : (n y : ℕ) → y ≤ n → IsRoot y (root_within n y)
unfolding root_within
root-within-is zero zero h = omega arith
root-within-is zero (suc y) h = absurd (omega arith)
root-within-is (suc n) zero h = omega arith
root-within-is (suc n) (suc y) h =
    let i = root-within-is n (suc y / 4) (omega arith) in
    next-bit-is _ (suc y) (2 * (root_within n (suc y / 4))) (ltb→lt _ _) (nltb→le _ _) (omega arith) (omega arith)

pub root_is : (y : ℕ) → IsRoot y (root y)
unfolding root
root_is y = root-within-is y y (omega arith)
