-- Row k holds exactly its sums, negative ones too: a sum lies in the range of its row number (`row-holds`) and in no other row's (`row-only`), by the two inequalities of the quotient rounded down.
-- A range test is read as its two orders both ways (`inside-yes`, `is-inside`), and two ranges with nothing between them join (`inside-join`).
use Rattle.meaning_numbers.specs.Quotient.{multiple}
use Rattle.meaning_numbers.proofs.Quotient.{floor-is}
use Rattle.meaning_numbers.proofs.Prelude.{◌≡◌, refl, ap, Bool, true, false, ◌||◌, and-false, ℕ, zero, suc, ◌+◌, ◌*◌, ◌/◌, ◌%◌, ◌<◌, ◌≤◌, arith, div-mul-le_self, lt-div-mul-add, div-add-mod', mul-mod_left, T, ℤ, pos, negsuc, neg_ℤ, nat_abs, sub_ℕ, ◌+ℤ◌, ◌≤ℤ◌, ◌<ℤ◌, le_z, lt_z, eqb-true, eq-eqb, Rep, rep-self, rep_pos, rep_add, rep_mul, rep-eq, rep-le, rep-lt, rep-subℕ, zarith, z-add, *ℤ-mono, zmach, lt_z-true, lt_z-false, lt-lt_z, le-lt_z, by-test, clash}
use Rattle.meaning_rows.specs.Range.{row_number, low_of, up_of, inside}

-- ---- ranges

pub le-le_z : {a b : ℤ} → a ≤ℤ b → le_z a b ≡ true
le-le_z {a} {b} h = by-test _ (λ t. t) (λ f. absurd (omega zmach))

pub lt-le_z : {a b : ℤ} → b <ℤ a → le_z a b ≡ false
lt-le_z {a} {b} h = by-test _ (λ t. absurd (omega zmach)) (λ f. f)

pub inside-yes : (low up z : ℤ) → low ≤ℤ z → z <ℤ up → inside low up z ≡ true
unfolding inside
inside-yes low up z h k = rw (le-le_z h, lt-lt_z k)

pub inside-below : (low up z : ℤ) → z <ℤ low → inside low up z ≡ false
unfolding inside
inside-below low up z h = rw (lt-le_z h)

pub inside-above : (low up z : ℤ) → up ≤ℤ z → inside low up z ≡ false
unfolding inside
inside-above low up z h = rw (le-lt_z h) (and-false (le_z low z))

-- by cases: below, inside or above
pub where-is {ℓ} : {X : Type ℓ} (low up z : ℤ) → (z <ℤ low → X) → (low ≤ℤ z → z <ℤ up → X) → (low ≤ℤ z → up ≤ℤ z → X) → X
where-is low up z a b c = by-test (lt_z z low) (λ t. a (lt_z-true t)) (λ f. by-test (lt_z z up) (λ t. b (lt_z-false f) (lt_z-true t)) (λ g. c (lt_z-false f) (lt_z-false g)))

pub is-inside : (low up z : ℤ) → inside low up z ≡ true → (low ≤ℤ z) × (z <ℤ up)
is-inside low up z e = where-is low up z (λ h. clash e (inside-below low up z h)) (λ h k. (h, k)) (λ h k. clash e (inside-above low up z k))

-- two ranges in order with nothing between them
pub inside-join : (a b c d z : ℤ) → a ≤ℤ b → b ≤ℤ c → c ≤ℤ d → (b ≤ℤ z → z <ℤ c → ⊥) → (inside a b z || inside c d z) ≡ inside a d z
inside-join a b c d z ab bc cd gap =
    where-is a b z
    (λ h. let k : z <ℤ c = omega zarith in rw (inside-below a b z h, inside-below c d z k, inside-below a d z h))
    (λ h k. let l : z <ℤ d = omega zarith in rw (inside-yes a b z h k, inside-yes a d z h l))
    (λ h k. by-test _ (λ t. absurd (gap k (lt_z-true t)))
    (λ f. by-test _
    (λ t. let m = lt_z-true t in rw (inside-above a b z k, inside-yes c d z (lt_z-false f) m, inside-yes a d z h m))
    (λ g. let m = lt_z-false g in rw (inside-above a b z k, inside-above c d z m, inside-above a d z m))))

-- ---- row numbers

pub row_below : (d : ℕ) (z : ℤ) → 0 < d → low_of d (row_number d z) ≤ℤ z
row_below d z one = (floor-is z d one).0

pub row-above : (d : ℕ) (z : ℤ) → 0 < d → z <ℤ up_of d (row_number d z)
row-above d z one = (floor-is z d one).1

pub mul-lt : (d : ℕ) (k l z : ℤ) → low_of d k ≤ℤ z → z <ℤ low_of d l → k <ℤ l
mul-lt d k l z h m = by-test _ lt_z-true (λ f. let o : low_of d l ≤ℤ low_of d k = *ℤ-mono d (lt_z-false {a = k} f) in absurd (omega zarith))

pub widen : (d : ℕ) (k : ℤ) → 0 < d → low_of d k <ℤ up_of d k
widen d k one = rep-lt (rep_mul (rep-self k) (rep_pos d)) (rep_mul (rep_add (rep-self k) (rep_pos 1)) (rep_pos d)) (omega arith)

pub next_le : (d : ℕ) (k l : ℤ) → k <ℤ l → up_of d k ≤ℤ low_of d l
next_le d k l h = let o : (k +ℤ pos 1) ≤ℤ l = omega (zarith, z-add k (pos 1)) in *ℤ-mono {x = k +ℤ pos 1} {y = l} d o

-- a sum at or above the end of row k has a greater row number, and one below the start of row k a smaller
pub row-after : (d : ℕ) (k z : ℤ) → 0 < d → up_of d k ≤ℤ z → k <ℤ row_number d z
row-after d k z one h =
    let m : (k +ℤ pos 1) <ℤ (row_number d z +ℤ pos 1) = mul-lt d _ _ z h (row-above d z one) in
    omega (zarith, z-add k (pos 1), z-add (row_number d z) (pos 1))

pub row_before : (d : ℕ) (k z : ℤ) → 0 < d → z <ℤ low_of d k → row_number d z <ℤ k
row_before d k z one h = mul-lt d _ k z (row_below d z one) h

pub in-own : (d : ℕ) (z : ℤ) → 0 < d → inside (low_of d (row_number d z)) (up_of d (row_number d z)) z ≡ true
in-own d z one = inside-yes _ _ z (row_below d z one) (row-above d z one)

pub row-holds : (d : ℕ) (z : ℤ) → 0 < d → T (inside (low_of d (row_number d z)) (up_of d (row_number d z)) z)
row-holds d z one = rw (in-own d z one) tt

pub row-unique : (d : ℕ) (k z : ℤ) → 0 < d → inside (low_of d k) (up_of d k) z ≡ true → k ≡ row_number d z
row-unique d k z one e =
    let i = is-inside _ _ z e in
    let a : k <ℤ (row_number d z +ℤ pos 1) = mul-lt d k _ z i.0 (row-above d z one) in
    let b : row_number d z <ℤ (k +ℤ pos 1) = mul-lt d _ _ z (row_below d z one) i.1 in
    omega (zarith, z-add k (pos 1), z-add (row_number d z) (pos 1))

is_true : (t : Bool) → T t → t ≡ true
is_true true h = refl
is_true false h = absurd h

pub row-only : (d : ℕ) (k z : ℤ) → 0 < d → T (inside (low_of d k) (up_of d k) z) → k ≡ row_number d z
row-only d k z one t = row-unique d k z one (is_true _ t)

-- of a raised sum n = z + c, with c + e a multiple b * d: the quotient of n + e is the row number raised by b
pub row-raised : {z : ℤ} (n c e b d : ℕ) → Rep z n c → c + e ≡ b * d → 0 < d → Rep (row_number d z) ((n + e) / d) b
row-raised {z} n c e b d h m one =
    let q = (n + e) / d in
    let K = rep-subℕ q b in
    let lo : q * d ≤ n + e = div-mul-le_self (n + e) d in
    let hi : n + e < q * d + d = lt-div-mul-add one in
    let up = rep-lt h (rep_mul (rep_add K (rep_pos 1)) (rep_pos d)) (omega arith) in
    rw (← row-unique d (sub_ℕ q b) z one (inside-yes _ _ z (rep-le (rep_mul K (rep_pos d)) h (omega arith)) up)) K

-- a row's range is d wide
pub up_is : (d : ℕ) (k : ℤ) → up_of d k ≡ low_of d k +ℤ pos d
up_is d k = rep-eq (rep_mul (rep_add (rep-self k) (rep_pos 1)) (rep_pos d)) (rep_add (rep_mul (rep-self k) (rep_pos d)) (rep_pos d)) (omega arith)

-- ---- multiples

size-neg : (n : ℕ) → nat_abs (neg_ℤ (pos n)) ≡ n
size-neg zero = refl
size-neg (suc n) = refl

pub multiple-of : (d : ℕ) (k : ℤ) → multiple d (low_of d k) ≡ true
unfolding multiple
multiple-of d (pos n) = eq-eqb _ 0 (mul-mod_left n d)
multiple-of d (negsuc n) = rw (size-neg _) (eq-eqb _ 0 (mul-mod_left (suc n) d))

below-zero : (d q n : ℕ) → q * d ≡ suc n → (k : ℤ) × (negsuc n ≡ low_of d k)
below-zero d zero n e = absurd (omega arith)
below-zero d (suc q) n e = (negsuc q, rw e)

pub multiple-is : (d : ℕ) (z : ℤ) → multiple d z ≡ true → (k : ℤ) × (z ≡ low_of d k)
unfolding multiple
multiple-is d (pos n) e = (pos (n / d), ap pos (omega (arith, div-add-mod' n d, eqb-true (n % d) 0 e)))
multiple-is d (negsuc n) e = below-zero d (suc n / d) n (omega (arith, div-add-mod' (suc n) d, eqb-true (suc n % d) 0 e))
