-- Laws of specs/Normal.
use mir.Val.{bool_byte}
use Rattle.meaning_numbers.specs.Root.{root}
use Rattle.meaning_numbers.proofs.Root.{sq-le, le-of-sq-le, root_is}
use Rattle.meaning_numbers.proofs.Prelude.{◌≡◌, refl, ap, ℕ, zero, suc, ◌+◌, ◌-◌, ◌*◌, ◌/◌, ◌<◌, ◌≤◌, Bool, true, false, not, arith, T, leb, leb→le, nleb→lt, add-zero, mul-le-mul, mul-le-mul_left, mul-le-mul_right, le-div_iff_mul-le, div-lt_iff_lt-mul, ℤ, pos, negsuc, neg_ℤ, nat_abs, ◌-ℤ◌, Rep, rep_pos, rep-sub, rep-by, rep-eq}
use Rattle.meaning_curves.specs.{Curve.spread, Normal.centred, Normal.cut, Normal.normalised}
use Rattle.meaning_curves.proofs.Normal.{cut-is, cut-only}
use Rattle.distance_normal.specs.Normal.{normal, IsFactor, CutOf}

pub factor-is : {A : ℕ} → 0 < A → IsFactor A (root (4611686018427387904 / A))
factor-is {A} some = let i = root_is (4611686018427387904 / A) in record { low = (le-div_iff_mul-le some).0 i.low; high = (div-lt_iff_lt-mul some).0 i.high }

-- ---- the estimate

estimate-low : {A F : ℕ} (g e : ℕ) → IsFactor A F → e * 2147483648 ≤ g * F → e * e * A ≤ g * g
estimate-low {A} {F} g e f h = omega (arith, mul-le-mul_right A (sq-le h), mul-le-mul_left (g * g) f.low)

estimate-high : {A F : ℕ} (g e : ℕ) → IsFactor A F → 0 < A → g < 2147483648 → g * F < (e + 1) * 2147483648 → g * g < (e + 2) * (e + 2) * A
estimate-high {A} {F} g e f some small h =
    let k : g * (F + 1) + 1 ≤ (e + 2) * 2147483648 = omega arith in
    omega (arith, mul-le-mul_right A (sq-le k), mul-le-mul_left (g * g) f.high)

-- ---- sizes

factor-le : {A F : ℕ} → 0 < A → IsFactor A F → F ≤ 2147483648
factor-le {A} {F} some f = le-of-sq-le (omega (arith, f.low, mul-le-mul_left (F * F) some))

size-le : (A e g : ℕ) → 0 < A → e * e * A ≤ g * g → e ≤ g
size-le A e g some h = le-of-sq-le (omega (arith, mul-le-mul_left (e * e) some))

twice : (e : ℕ) → 2 * e ≤ 3 * (e * e)
twice zero = omega arith
twice (suc e) = omega arith

next_le : (A e g : ℕ) → e * e * A ≤ g * g → (e + 1) * (e + 1) * A ≤ 4 * (g * g) + A
next_le A e g h = omega (arith, mul-le-mul_right A (twice e))

-- what the code has to know
pub record Estimate (A F g e : ℕ) : Type 0 where
  pub product : g * F ≤ 4398046511104000000
  pub size : e ≤ 2048000000
  pub next : (e + 1) * (e + 1) ≤ 4194304004096000001
  pub next-times : (e + 1) * (e + 1) * A ≤ 16777635430400000000
  pub square-of : g * g ≤ 4194304000000000000
  pub low : e * e * A ≤ g * g
  pub high : g * g < (e + 2) * (e + 2) * A

pub product_le : {A F : ℕ} (g : ℕ) → g ≤ 2048000000 → 0 < A → IsFactor A F → g * F ≤ 4398046511104000000
product_le g h some f = omega (arith, mul-le-mul h (factor-le some f))

pub estimate : {A F : ℕ} (g e : ℕ) → g ≤ 2048000000 → 0 < A → A ≤ 419430400000000 → IsFactor A F → e * 2147483648 ≤ g * F → g * F < (e + 1) * 2147483648 → Estimate A F g e
estimate {A} {F} g e h some large f l u =
    let low = estimate-low g e f l in
    let s = size-le A e g some low in
    let n : e + 1 ≤ 2048000001 = omega arith in
    let q = sq-le h in
    record {
      product = product_le g h some f;
      size = omega arith;
      next = omega (arith, sq-le n);
      next-times = omega (arith, next_le A e g low);
      square-of = omega arith;
      low = low;
      high = estimate-high g e f some (omega arith) u;
    }

-- ---- the cut is determined

-- the only one that the meaning admits
cut-same : {A t : ℕ} (c : ℤ) → 0 < A → CutOf A (nat_abs c) t → t ≡ cut A c
cut-same c some h = cut-only (record { low = h.low; high = h.high }) (cut-is c some)

pub cut_small : {A d t : ℕ} → 0 < A → CutOf A d t → t ≤ 100 * d
cut_small {A} {d} {t} some h = size-le A t _ some h.low

pub centred-diff : {c : ℤ} {a b : ℕ} → Rep c a b → pos a -ℤ pos b ≡ c
centred-diff {c} {a} {b} h = rep-eq (rep-sub (rep_pos a) (rep_pos b)) h (omega arith)

-- ---- the estimate, or one more, is the cut

cut-here : {A F d e : ℕ} → Estimate A F (100 * d) e → 100 * d * (100 * d) < (e + 1) * (e + 1) * A → CutOf A d e
cut-here s h = record { low = s.low; high = h }

cut-next : {A F d e : ℕ} → Estimate A F (100 * d) e → (e + 1) * (e + 1) * A ≤ 100 * d * (100 * d) → CutOf A d (e + 1)
cut-next {e = e} s h = let two : e + 1 + 1 ≡ e + 2 = omega arith in record { low = h; high = rw two s.high }

-- chosen by a flag, with no branch
flag-cut : {A d e : ℕ} (t : Bool) → (T t → CutOf A d (e + 1)) → (T (not t) → CutOf A d e) → CutOf A d (e + bool_byte t)
flag-cut true f g = f tt
flag-cut false f g = rw add-zero (g tt)

pub flag-le : (t : Bool) → bool_byte t ≤ 1
flag-le true = omega arith
flag-le false = omega arith

pub cut-flag : {A F d e : ℕ} → Estimate A F (100 * d) e → CutOf A d (e + bool_byte (leb ((e + 1) * (e + 1) * A) (100 * d * (100 * d))))
cut-flag {A} {F} {d} {e} s = flag-cut (leb ((e + 1) * (e + 1) * A) _) (λ t. cut-next s (leb→le _ _ t)) (λ t. cut-here s (nleb→lt _ _ t))

-- ---- with its sign

pub normal-down : {A t x p : ℕ} (c : ℤ) → Rep c x p → 0 < A → x < p → CutOf A (p - x) t → neg_ℤ (pos t) ≡ normal A c
unfolding normal
normal-down (pos n) r some h k = absurd (omega arith)
normal-down {A} {t} {x} {p} (negsuc n) r some h k =
    let e : p - x ≡ suc n = omega arith in
    rw (cut-same (negsuc n) some (rw e at k))

pub normal-up : {A t x p : ℕ} (c : ℤ) → Rep c x p → 0 < A → p ≤ x → CutOf A (x - p) t → pos t ≡ normal A c
unfolding normal
normal-up {A} {t} {x} {p} (pos n) r some h k =
    let e : x - p ≡ n = omega arith in
    ap pos (cut-same (pos n) some (rw e at k))
normal-up (negsuc n) r some h k = absurd (omega arith)

pub diff : (x p : ℕ) → Rep (pos x -ℤ pos p) x p
diff x p = rep-by (rep-sub (rep_pos x) (rep_pos p)) (omega arith)

pub normalised-is : {a b A : ℕ} (s : ℕ → ℤ) (m k : ℕ) → A ≡ spread s m → Rep (centred s m k) a b → normal A (pos a -ℤ pos b) ≡ normalised s m k
unfolding normalised normal
normalised-is s m k e r = rw (e, centred-diff r) refl
