-- What a proof of signed code is asked and told, as rules of `omega`: `omega zmach` reads the flags of signed tests, reads `to_z w (of_z w x)` as x where x is known to fit, and proves that a number fits an `i64` and that it is not negative.
-- What it does not find, the sums and sizes in the goal, is listed: `omega (zmach, z-add x y, z-abs z)`.
use Prim.Native.Nat.{ℕ, ◌+◌, ◌-◌, ◌^◌, ◌<◌, ◌≤◌}
use borrow.Author.Tests.{leb-false}
use lib.Dec.{T}
use lib.IntN.{ℤ, pos, negsuc, nat_abs}
use lib.Signed.{◌≤ℤ◌, ◌<ℤ◌, le_z, lt_z, lt_z_yes, le_z_yes, lt_z_no, clash_ℤ, non_neg}
use mathlib.Core.Bool.{Bool, true, false}
use mathlib.Core.Path.{◌≡◌, refl, sym, subst}
use mir.Syntax.{w32, w64}
use mir.Val.{SFits, to_z, of_z}
use mir.ValLaws.{to_z-of_z, to_z_pos}
use native.Mathlib.Omega.{arith}
use Rattle.meaning_numbers.proofs.Rep.{up, dn, zarith, z-le, z-lt, z-eq}

-- ---- a flag and the order that it tests

pub lt_z-true : {a b : ℤ} → lt_z a b ≡ true → a <ℤ b
lt_z-true e = lt_z_yes (subst T (sym e) tt)

pub lt_z-false : {a b : ℤ} → lt_z a b ≡ false → b ≤ℤ a
lt_z-false e = lt_z_no (rw e tt)

pub le_z-true : {a b : ℤ} → le_z a b ≡ true → a ≤ℤ b
le_z-true e = le_z_yes (subst T (sym e) tt)

is_true : (t : Bool) → T t → t ≡ true
is_true true h = refl
is_true false h = absurd h

is_false : (t : Bool) → (T t → ⊥) → t ≡ false
is_false true h = absurd (h tt)
is_false false h = refl

pub lt-lt_z : {a b : ℤ} → a <ℤ b → lt_z a b ≡ true
lt-lt_z h = is_true _ h.lt

pub le-lt_z : {a b : ℤ} → b ≤ℤ a → lt_z a b ≡ false
le-lt_z h = is_false _ (λ t. clash_ℤ (lt_z_yes t) h)

-- ---- the rules

pub f_lt : (a b : ℤ) → lt_z a b ≡ true → up a + dn b < up b + dn a
f_lt a b e = z-lt {x = a} (lt_z-true e)

pub f_ge : (a b : ℤ) → lt_z a b ≡ false → up b + dn a ≤ up a + dn b
f_ge a b e = z-le {y = a} (lt_z-false e)

pub f-le : (a b : ℤ) → le_z a b ≡ true → up a + dn b ≤ up b + dn a
f-le a b e = z-le {x = a} (le_z-true e)

pub f-gt : (a b : ℤ) → le_z a b ≡ false → up b + dn a < up a + dn b
f-gt (pos m) (pos n) e = omega (arith, leb-false m n e)
f-gt (pos m) (negsuc n) e = omega arith
f-gt (negsuc m) (pos n) e = absurd (subst T e tt)
f-gt (negsuc m) (negsuc n) e = omega (arith, leb-false n m e)

-- the bits of a number that fits are read back as the number
pub z-read : {x : ℤ} → SFits w64 x → up (to_z w64 (of_z w64 x)) + dn x ≡ up x + dn (to_z w64 (of_z w64 x))
z-read {x} f = z-eq (to_z-of_z w64 x f)

pub to-sfits : {z : ℤ} → (up z - dn z) + (dn z - up z - 1) < 2 ^ 63 → SFits w64 z
to-sfits {z = pos n} h = record { sfits = omega arith }
to-sfits {z = negsuc n} h = record { sfits = omega arith }

pub to-non_neg : (z : ℤ) → dn z ≤ up z → T (non_neg z)
to-non_neg (pos n) h = tt
to-non_neg (negsuc n) h = absurd (omega arith)

pub ruleset zmach = (zarith, f_lt, f_ge, f-le, f-gt, z-read, to-sfits, to-non_neg)

-- ---- to be listed

-- the size of a number; of one that is not negative, what a cast `z as u64` gives
pub z-abs : (z : ℤ) → nat_abs z ≡ (up z - dn z) + (dn z - up z)
z-abs (pos n) = omega arith
z-abs (negsuc n) = omega arith

-- an unsigned number below 2 ^ 63, cast `n as i64`, is read as itself
pub z-cast : (n : ℕ) → n < 2 ^ 63 → up (to_z w64 n) ≡ n + dn (to_z w64 n)
z-cast n h = omega (arith, z-eq (to_z_pos w64 n h))

-- ---- the same at 32 bits

pub z-read32 : {x : ℤ} → SFits w32 x → up (to_z w32 (of_z w32 x)) + dn x ≡ up x + dn (to_z w32 (of_z w32 x))
z-read32 {x} f = z-eq (to_z-of_z w32 x f)

pub to-sfits32 : {z : ℤ} → (up z - dn z) + (dn z - up z - 1) < 2 ^ 31 → SFits w32 z
to-sfits32 {z = pos n} h = record { sfits = omega arith }
to-sfits32 {z = negsuc n} h = record { sfits = omega arith }

pub z-cast32 : (n : ℕ) → n < 2 ^ 31 → up (to_z w32 n) ≡ n + dn (to_z w32 n)
z-cast32 n h = omega (arith, z-eq (to_z_pos w32 n h))

pub ruleset zmach32 = (zarith, f_lt, f_ge, f-le, f-gt, z-read32, to-sfits32, to-non_neg)

-- to be listed: the limits of a number that fits
pub z-fits : {z : ℤ} → SFits w64 z → (up z < 2 ^ 63) × (dn z ≤ 2 ^ 63)
z-fits {z = pos n} h = (omega arith, omega arith)
z-fits {z = negsuc n} h = (omega arith, omega arith)
