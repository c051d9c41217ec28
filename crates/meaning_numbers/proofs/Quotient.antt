-- `floorℤ` and `ceilℤ` are the quotients rounded down and up: each by its two inequalities (`floor-is`, `ceil-is`), and as the greatest and the least (`floor-most`, `ceil-least`).
use native.Mathlib.Nat.{div-mul-le_self, lt-div-mul-add, lt_of_mul-lt-mul_right}
use Rattle.meaning_numbers.specs.Quotient.{floorℤ, ceilℤ}
use Rattle.meaning_numbers.proofs.Rep.{up, dn, rep-self, rep_pos, rep_neg, rep_add, rep-sub, rep_mul, rep-le, rep-lt, le-rep, lt-rep, zarith, z-neg}
use Rattle.meaning_numbers.proofs.Prelude.{ℕ, ◌+◌, ◌/◌, ◌<◌, ℤ, pos, negsuc, neg_ℤ, ◌+ℤ◌, ◌-ℤ◌, ◌*ℤ◌, ◌≤ℤ◌, ◌<ℤ◌, arith}

pub floor-is : (z : ℤ) (d : ℕ) → 0 < d → ((floorℤ z d *ℤ pos d) ≤ℤ z) × (z <ℤ ((floorℤ z d +ℤ pos 1) *ℤ pos d))
unfolding floorℤ
floor-is (pos a) d h =
    let lo = div-mul-le_self a d in
    let hi = lt-div-mul-add {a = a} h in
    let F = rep_pos (a / d) in
    (rep-le (rep_mul F (rep_pos d)) (rep_pos a) (omega arith), rep-lt (rep_pos a) (rep_mul (rep_add F (rep_pos 1)) (rep_pos d)) (omega arith))
floor-is (negsuc a) d h =
    let lo = div-mul-le_self a d in
    let hi = lt-div-mul-add {a = a} h in
    let F = rep-self (negsuc (a / d)) in
    (rep-le (rep_mul F (rep_pos d)) (rep-self (negsuc a)) (omega arith), rep-lt (rep-self (negsuc a)) (rep_mul (rep_add F (rep_pos 1)) (rep_pos d)) (omega arith))

pub floor-most : (x z : ℤ) (d : ℕ) → 0 < d → (x *ℤ pos d) ≤ℤ z → x ≤ℤ floorℤ z d
floor-most x z d h le =
    let f = floorℤ z d in
    let a = le-rep (rep_mul (rep-self x) (rep_pos d)) (rep-self z) le in
    let b = lt-rep (rep-self z) (rep_mul (rep_add (rep-self f) (rep_pos 1)) (rep_pos d)) (floor-is z d h).1 in
    let c : up x + dn f < up f + 1 + dn x = lt_of_mul-lt-mul_right d (omega arith) in
    omega zarith

pub ceil-least : (x z : ℤ) (d : ℕ) → 0 < d → z ≤ℤ (x *ℤ pos d) → ceilℤ z d ≤ℤ x
unfolding ceilℤ
ceil-least x z d h le =
    let a = le-rep (rep-self z) (rep_mul (rep-self x) (rep_pos d)) le in
    let b = floor-most (neg_ℤ x) (neg_ℤ z) d h (rep-le (rep_mul (rep_neg (rep-self x)) (rep_pos d)) (rep_neg (rep-self z)) (omega arith)) in
    omega (zarith, z-neg x, z-neg (floorℤ (neg_ℤ z) d))

pub ceil-is : (z : ℤ) (d : ℕ) → 0 < d → (z ≤ℤ (ceilℤ z d *ℤ pos d)) × (((ceilℤ z d -ℤ pos 1) *ℤ pos d) <ℤ z)
unfolding ceilℤ
ceil-is z d h =
    let f = floorℤ (neg_ℤ z) d in
    let F = rep-self f in
    let Z = rep-self z in
    let i = floor-is (neg_ℤ z) d h in
    let a = le-rep (rep_mul F (rep_pos d)) (rep_neg Z) i.0 in
    let b = lt-rep (rep_neg Z) (rep_mul (rep_add F (rep_pos 1)) (rep_pos d)) i.1 in
    (rep-le Z (rep_mul (rep_neg F) (rep_pos d)) (omega arith), rep-lt (rep_mul (rep-sub (rep_neg F) (rep_pos 1)) (rep_pos d)) Z (omega arith))
