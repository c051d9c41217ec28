-- Sums, differences, products and quotients of small numbers are small, and a small number fits 64 bits.
use Rattle.meaning_numbers.specs.{Order.minℤ, Order.maxℤ, Quotient.floorℤ}
use Rattle.meaning_numbers.proofs.Order.{minℤ-one, maxℤ-one}
use Rattle.meaning_numbers.proofs.Prelude.{◌≡◌, ⊎_elim, ℕ, ◌+◌, ◌*◌, ◌<◌, ◌≤◌, ◌^◌, arith, mul-le-mul, div-le_self, ℤ, pos, negsuc, neg_ℤ, ◌+ℤ◌, ◌-ℤ◌, ◌*ℤ◌, w64, SFits, to_z, of_z, to_z-of_z, to_z_pos, up, dn, z-add, z-sub, z-neg, to-eq, to-sfits}
use Rattle.numbers.specs.Small.{Small}

pub small_pos : (n k : ℕ) → k ≤ n → Small n (pos k)
small_pos n k h = record { above = h; below = omega arith }

pub small-more : {n : ℕ} (k : ℕ) {z : ℤ} → n ≤ k → Small n z → Small k z
small-more k h s = record { above = omega arith; below = omega arith }

-- one of the two numbers of z is 0
pub one_side : (z : ℤ) (n : ℕ) → up z ≤ dn z + n → dn z ≤ up z + n → Small n z
one_side (pos k) n h g = record { above = omega arith; below = omega arith }
one_side (negsuc k) n h g = record { above = omega arith; below = omega arith }

pub small-add : {a b : ℕ} (x y : ℤ) → Small a x → Small b y → Small (a + b) (x +ℤ y)
small-add {a} {b} x y h k = one_side _ (a + b) (omega (arith, z-add x y, h.above, h.below, k.above, k.below)) (omega (arith, z-add x y))

pub small-sub : {a b : ℕ} (x y : ℤ) → Small a x → Small b y → Small (a + b) (x -ℤ y)
small-sub {a} {b} x y h k = one_side _ (a + b) (omega (arith, z-sub x y, h.above, h.below, k.above, k.below)) (omega (arith, z-sub x y))

pub small-fits : {n : ℕ} {z : ℤ} → n < 2 ^ 63 → Small n z → SFits w64 z
small-fits {z = z} h s = to-sfits (omega arith)

pub small-neg : {n : ℕ} (z : ℤ) → Small n z → Small n (neg_ℤ z)
small-neg {n} z s = one_side _ n (omega (arith, z-neg z, s.above, s.below)) (omega (arith, z-neg z))

pub small_mul : {a b : ℕ} (x y : ℤ) → Small a x → Small b y → Small (a * b) (x *ℤ y)
small_mul {a} {b} (pos m) (pos n) h k = record { above = mul-le-mul h.above k.above; below = omega arith }
small_mul {a} {b} (pos m) (negsuc n) h k = small-neg (pos _) (record { above = mul-le-mul h.above k.below; below = omega arith })
small_mul {a} {b} (negsuc m) (pos n) h k = small-neg (pos _) (record { above = mul-le-mul h.below k.above; below = omega arith })
small_mul {a} {b} (negsuc m) (negsuc n) h k = record { above = mul-le-mul h.below k.below; below = omega arith }

pub small-floor : {n : ℕ} (z : ℤ) (d : ℕ) → Small n z → Small n (floorℤ z d)
unfolding floorℤ
small-floor (pos k) d h = record { above = omega (arith, div-le_self k d); below = omega arith }
small-floor (negsuc k) d h = record { above = omega arith; below = omega (arith, div-le_self k d) }

pub small-min : {n : ℕ} (x y : ℤ) → Small n x → Small n y → Small n (minℤ x y)
small-min {n} x y h k = ⊎_elim (λ e. rw e h) (λ e. rw e k) (minℤ-one x y)

pub small-max : {n : ℕ} (x y : ℤ) → Small n x → Small n y → Small n (maxℤ x y)
small-max {n} x y h k = ⊎_elim (λ e. rw e k) (λ e. rw e h) (maxℤ-one x y)

pub small-back : {n : ℕ} (z : ℤ) → n < 2 ^ 63 → Small n z → to_z w64 (of_z w64 z) ≡ z
small-back z h s = to_z-of_z w64 z (small-fits h s)

pub arg-back : {n : ℕ} (z : ℤ) → n < 2 ^ 63 → Small n z → Small n (to_z w64 (of_z w64 z))
arg-back z h s = rw (small-back z h s) s

-- 0 less a number
pub zero-less : (z : ℤ) → pos 0 -ℤ z ≡ neg_ℤ z
zero-less z = to-eq (omega (arith, z-sub (pos 0) z, z-neg z))

-- an unsigned number, cast
pub cast-back : {n : ℕ} (k : ℕ) → n < 2 ^ 63 → k ≤ n → to_z w64 k ≡ pos k
cast-back k h l = to_z_pos w64 k (omega arith)

pub cast-small : {n : ℕ} (k : ℕ) → n < 2 ^ 63 → k ≤ n → Small n (to_z w64 k)
cast-small {n} k h l = rw (cast-back k h l) (small_pos n k l)
