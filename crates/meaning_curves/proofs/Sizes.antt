-- How large the numbers get, for code that computes them. The squares of the centred values sum to m × A (`centred-sum`), so each is at most m × A, and a normalised value is at most 100 times the root of m: at most 3200 where m is at most 1024 (`normal-small`).
-- The spread is at most (m × V)² where no value exceeds V (`spread-le`).
use Rattle.meaning_numbers.specs.Sum.{Σℤ, Σℕ, square}
use Rattle.meaning_numbers.proofs.Prelude.{◌≡◌, refl, ap, ◌∙◌, sym, ℕ, zero, suc, ◌*◌, ◌<◌, ◌≤◌, arith, mul-le-mul_left, le_of_mul-le-mul_right, ℤ, pos, negsuc, ◌+ℤ◌, ◌-ℤ◌, ◌*ℤ◌, nat_abs, rep-self, rep_pos, rep_add, rep-sub, rep_mul, rep-eq, eq-rep}
use Rattle.meaning_numbers.proofs.{Sum.Σℕ-le, Slide.Σℕ-term, Root.sq-le, Root.le-of-sq-le}
use Rattle.meaning_curves.specs.{Curve.spread, Normal.centred, Normal.cut, Normal.signed, Normal.normalised}
use Rattle.meaning_curves.proofs.{Spread.spread-is, Spread.squares, Normal.cut-is}

-- ---- the centred values

square-of : (m : ℕ) (x t : ℤ) → (pos m *ℤ x -ℤ t) *ℤ (pos m *ℤ x -ℤ t) ≡ pos (m * m) *ℤ (x *ℤ x) -ℤ pos (2 * m) *ℤ t *ℤ x +ℤ t *ℤ t
square-of m x t =
    let T = rep-self t in
    let X = rep-self x in
    let C = rep-sub (rep_mul (rep_pos m) X) T in
    rep-eq (rep_mul C C) (rep_add (rep-sub (rep_mul (rep_pos (m * m)) (rep_mul X X)) (rep_mul (rep_mul (rep_pos (2 * m)) T) X)) (rep_mul T T)) (omega arith)

squares-of : (m w : ℕ) (t : ℤ) (s : ℕ → ℤ) → Σℤ w (λ k. (pos m *ℤ s k -ℤ t) *ℤ (pos m *ℤ s k -ℤ t))
    ≡ pos (m * m) *ℤ Σℤ w (λ k. s k *ℤ s k) -ℤ pos (2 * m) *ℤ t *ℤ Σℤ w s +ℤ pos w *ℤ (t *ℤ t)
unfolding Σℤ
squares-of m zero t s =
    let T = rep-self t in
    rep-eq (rep_pos 0) (rep_add (rep-sub (rep_mul (rep_pos (m * m)) (rep_pos 0)) (rep_mul (rep_mul (rep_pos (2 * m)) T) (rep_pos 0))) (rep_mul (rep_pos 0) (rep_mul T T))) (omega arith)
squares-of m (suc w) t s =
    let M = rep_pos (m * m) in
    let B = rep-self (pos (2 * m) *ℤ t) in
    let T = rep-self (t *ℤ t) in
    let X = rep-self (s w) in
    let X² = rep-self _ in
    let S = rep-self _ in
    let Q = rep-self (Σℤ w (λ k. s k *ℤ s k)) in
    rw (squares-of m w t s, square-of m (s w) t)
    (rep-eq (rep_add (rep_add (rep-sub (rep_mul M Q) (rep_mul B S)) (rep_mul (rep_pos w) T)) (rep_add (rep-sub (rep_mul M X²) (rep_mul B X)) T))
    (rep_add (rep-sub (rep_mul M (rep_add Q X²)) (rep_mul B (rep_add S X))) (rep_mul (rep_pos (suc w)) T)) (omega arith))

pub centred-sum : (s : ℕ → ℤ) (m : ℕ) → Σℕ m (λ k. square (nat_abs (centred s m k))) ≡ m * spread s m
centred-sum s m =
    let T = rep-self (Σℤ m s) in
    let Q = rep-self (Σℤ m (λ k. s k *ℤ s k)) in
    let a = ap (λ x. m * x) (eq-rep (rep_pos _) (rep-sub (rep_mul (rep_pos m) Q) (rep_mul T T)) (spread-is s m)) in
    let right = rep_add (rep-sub (rep_mul (rep_pos (m * m)) Q) (rep_mul (rep_mul (rep_pos (2 * m)) T) T)) (rep_mul (rep_pos m) (rep_mul T T)) in
    let b = eq-rep (rep_pos (Σℕ m (λ k. square (nat_abs (centred s m k))))) right (sym (squares m (centred s m)) ∙ squares-of m m (Σℤ m s) s) in
    omega arith

-- ---- the normalised values

nat_abs-signed : (c : ℤ) (t : ℕ) → nat_abs (signed c t) ≡ t
nat_abs-signed (pos x) t = refl
nat_abs-signed (negsuc x) zero = refl
nat_abs-signed (negsuc x) (suc t) = refl

pub normal-square : (s : ℕ → ℤ) (m k : ℕ) → 0 < spread s m → k < m → square (nat_abs (normalised s m k)) ≤ 10000 * m
unfolding normalised
normal-square s m k some h =
    let A = spread s m in
    let c = centred s m k in
    let t = cut A c in
    let i = cut-is c some in
    let e : t * t ≤ 10000 * m = le_of_mul-le-mul_right
    (omega (arith, i.low, centred-sum s m, Σℕ-term m k (λ j. square (nat_abs (centred s m j))) h)) some in
    rw (nat_abs-signed c t) e

pub normal-small : (s : ℕ → ℤ) (m k : ℕ) → 0 < spread s m → k < m → m ≤ 1024 → nat_abs (normalised s m k) ≤ 3200
normal-small s m k some h short = le-of-sq-le (omega (arith, normal-square s m k some h))

-- ---- the spread

pub spread-le : (s : ℕ → ℤ) (m v : ℕ) → ((k : ℕ) → k < m → nat_abs (s k) ≤ v) → spread s m ≤ m * v * (m * v)
unfolding spread
spread-le s m v h =
    omega (arith, mul-le-mul_left m (Σℕ-le m (v * v) (λ k. square _) (λ k l. sq-le (h k l))))
