-- Laws of specs/Sums.
use Rattle.meaning_numbers.specs.Sum.{Σℕ, Σℤ, square}
use Rattle.meaning_numbers.proofs.Prelude.{◌≡◌, List, ℕ, zero, suc, ◌+◌, ◌*◌, ◌≤◌, arith, mul-le-mul, ℤ, ◌*ℤ◌, Rep, rep_pos, rep-by, rep_add, rep-sub, rep_mul, eq-rep}
use Rattle.meaning_numbers.proofs.{Sum.Σℕ-le, Slide.Σℕ-slide, Root.sq-le}
use Rattle.meaning_curves.specs.{Curve.at, Curve.stretch, Curve.spread, Normal.centred}
use Rattle.meaning_curves.proofs.{Spread.spread-is, Values.AllIn}
use Rattle.numbers.specs.Raised.{raised, raised-le}
use Rattle.numbers.proofs.Raised.{raised_is}
use Rattle.values.specs.Sums.{AreSums}

-- ---- their sizes

pub sums-le : {s : List ℤ} {from m p w : ℕ} → AllIn s → AreSums s from m p w → (p ≤ 20000 * m) × (w ≤ 400000000 * m)
sums-le {s} {from} {m} h a = (
  omega (arith, a.values, Σℕ-le m 20000 (λ k. raised (stretch s from k)) (λ k l. raised-le (h.at _))),
  omega (arith, a.squares, Σℕ-le m 400000000 (λ k. square (raised (stretch s from k))) (λ k l. omega (arith, sq-le (raised-le (h.at (from + k)))))),
)

-- ---- the spread and the centred value

pub sum-raised : {s : List ℤ} (from m : ℕ) → AllIn s → Rep (Σℤ m (stretch s from)) (Σℕ m (λ k. raised (stretch s from k))) (10000 * m)
unfolding Σℤ Σℕ
sum-raised from zero h = rep-by (rep_pos 0) (omega arith)
sum-raised from (suc m) h = rep-by (rep_add (sum-raised from m h) (raised_is (h.at _))) (omega arith)

squares-raised : {s : List ℤ} (from m : ℕ) → AllIn s → Rep (Σℤ m (λ k. stretch s from k *ℤ stretch s from k))
    (Σℕ m (λ k. square (raised (stretch s from k))) + 100000000 * m) (20000 * Σℕ m (λ k. raised (stretch s from k)))
unfolding Σℤ Σℕ
squares-raised from zero h = rep-by (rep_pos 0) (omega arith)
squares-raised from (suc m) h =
    let x = raised_is (h.at _) in
    rep-by (rep_add (squares-raised from m h) (rep_mul x x)) (omega arith)

pub spread-raised : {s : List ℤ} {from m p w : ℕ} → AllIn s → AreSums s from m p w → spread (stretch s from) m + p * p ≡ m * w
spread-raised {s} {from} {m} {p} {w} h a =
    let e = eq-rep (rep_pos _) (rep-sub (rep_mul (rep_pos m) (squares-raised from m h)) (rep_mul (sum-raised from m h) (sum-raised from m h))) (spread-is (stretch s from) m) in
    rw (a.values, a.squares) (omega arith)

pub centred-raised : {s : List ℤ} {from m p w : ℕ} (k : ℕ) → AllIn s → AreSums s from m p w → Rep (centred (stretch s from) m k) (m * raised (stretch s from k)) p
centred-raised {from = from} {m} {p} k h a =
    rep-by (rep-sub (rep_mul (rep_pos m) (raised_is (h.at _))) (sum-raised from m h)) (omega arith)

-- ---- the sums of the next stretch

pub slide-values : {s : List ℤ} {from m p w : ℕ} → AreSums s from m p w → Σℕ m (λ k. raised (stretch s (from + 1) k)) + raised (at s from) ≡ p + raised (at s (from + m))
slide-values {s} {from} {m} a = rw a.values (Σℕ-slide (λ k. raised (at s k)) from m)

pub slide-squares : {s : List ℤ} {from m p w : ℕ} → AreSums s from m p w
    → Σℕ m (λ k. square (raised (stretch s (from + 1) k))) + square (raised (at s from)) ≡ w + square (raised (at s (from + m)))
slide-squares {s} {from} {m} a = rw a.squares (Σℕ-slide (λ k. square (raised (at s k))) from m)

pub spread-small : {s : List ℤ} {from m p w : ℕ} → AllIn s → AreSums s from m p w → m ≤ 1024 → (m * w ≤ 419430400000000) × (p * p ≤ 419430400000000)
spread-small {s} {from} {m} {p} {w} h a short =
    let l = sums-le h a in
    let v : w ≤ 409600000000 = omega arith in
    (omega (arith, mul-le-mul short v), omega (arith, sq-le {x = p} {y = 20480000} (omega arith)))

pub spread-bound : {s : List ℤ} {from m p w : ℕ} → AllIn s → AreSums s from m p w → m ≤ 1024 → spread (stretch s from) m ≤ 419430400000000
spread-bound h a short = let l = spread-small h a short in omega (arith, spread-raised h a)
