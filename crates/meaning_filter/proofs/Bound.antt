-- The envelope bound: what the values of s lie outside an envelope of q, squared and summed, is at most the total of any path within the band. By induction on the path: a step that keeps i adds something, and one that raises i adds (s(i) - q(j))², at least the square of the excess, as q(j) lies in the envelope at i.
-- So the sum over the first n places alone is at most the distance (`distance-bound`), and a path's total is at least its total on reaching a row and the squared excesses after that row (`through`): a loop may stop once either passes the threshold.
use Rattle.meaning_numbers.specs.Sum.{Σℕ, square}
use Rattle.meaning_numbers.proofs.Prelude.{◌≡◌, ℕ, suc, ◌+◌, ◌-◌, ◌<◌, ◌≤◌, max, arith, dec_le, ℤ, pos, negsuc, ◌-ℤ◌, nat_abs, ◌≤ℤ◌, up, dn, zarith, z-sub, z-abs}
use Rattle.meaning_numbers.proofs.{Sum.Σℕ-fewer, Root.sq-le}
use Rattle.meaning_curves.specs.{Straight.cost, Warp.Near, Warp.WarpPath, Warp.start, Warp.first, Warp.second, Warp.both, Match.distance}
use Rattle.meaning_curves.proofs.Straight.{distance_least}
use Rattle.meaning_filter.proofs.Envelope.{Envelope}

-- max(0, x - u, l - x)
abbrev pub excess : ℤ → ℤ → ℤ → ℕ
excess l u x = max (up (x -ℤ u)) (up (l -ℤ x))

up_is : (z : ℤ) → up z ≡ up z - dn z
up_is (pos n) = omega arith
up_is (negsuc n) = omega arith

-- it is at most the distance to any number from l to u
pub excess-le : (x : ℤ) {l u y : ℤ} → l ≤ℤ y → y ≤ℤ u → excess l u x ≤ nat_abs (x -ℤ y)
excess-le x {l} {u} {y} h k = omega (zarith, up_is (x -ℤ u), up_is (l -ℤ x), z-sub x u, z-sub l x, z-sub x y, z-abs (x -ℤ y))

-- the squared excess at place k
abbrev pub apart : (s L U : ℕ → ℤ) → ℕ → ℕ
apart s L U k = square (excess (L k) (U k) (s k))

pub apart-le : {q L U : ℕ → ℤ} {m b i j : ℕ} (s : ℕ → ℤ) → Envelope q m b L U → j < m → Near b i j → apart s L U i ≤ cost (s i) (q j)
apart-le {i = i} {j} s e h n = sq-le (excess-le (s i) (e.low i j h n) (e.high i j h n))

pub envelope-bound : {s q L U : ℕ → ℤ} {m b i j t : ℕ} → Envelope q m b L U → WarpPath s q b i j t → j < m → Σℕ (suc i) (apart s L U) ≤ t
unfolding Σℕ
envelope-bound {s} e start h = omega (arith, apart-le {i = 0} s e h (omega arith))
envelope-bound {s} e (first p n) h = omega (arith, envelope-bound e p h, apart-le s e h n)
envelope-bound e (second p n) h = omega (arith, envelope-bound e p (omega arith))
envelope-bound {s} e (both p n) h = omega (arith, envelope-bound e p (omega arith), apart-le s e h n)

-- over the first n places of m, n growing: what the sum has passed, the distance has
pub distance-bound : {q L U : ℕ → ℤ} {m b : ℕ} (s : ℕ → ℤ) (n : ℕ) → Envelope q m b L U → n ≤ m → 0 < m → Σℕ n (apart s L U) ≤ distance s q b m
distance-bound {q} {L} {U} {m} {b} s n e h long =
    let last : suc (m - 1) ≡ m = omega arith in
    let whole = rw last at (envelope-bound e (distance_least s q b m long).attained (omega arith)) in
    omega (arith, Σℕ-fewer n m (apart s L U) h)

-- ---- a path from row k on

-- the path met row k at place j with total t; at row i it had the total d, at least t and the squared excesses of the rows after k
pub record Through (s q L U : ℕ → ℤ) (m b k i d : ℕ) : Type 0 where
  pub place : ℕ
  pub total : ℕ
  pub path : WarpPath s q b k place total
  pub there : place < m
  pub rest : total + Σℕ (suc i) (apart s L U) ≤ d + Σℕ (suc k) (apart s L U)

-- a step on in a row, and to the next row
along : {s q L U : ℕ → ℤ} {m b k i d : ℕ} (c : ℕ) → Through s q L U m b k i d → Through s q L U m b k i (d + c)
along c o = record { place = o.place; total = o.total; path = o.path; there = o.there; rest = omega arith }

down : {s q L U : ℕ → ℤ} {m b k i d : ℕ} (c : ℕ) → apart s L U (suc i) ≤ c → Through s q L U m b k i d → Through s q L U m b k (suc i) (d + c)
unfolding Σℕ
down c h o = record { place = o.place; total = o.total; path = o.path; there = o.there; rest = omega arith }

-- a path that is in row k
here : {s q L U : ℕ → ℤ} {m b k j d : ℕ} → WarpPath s q b k j d → j < m → Through s q L U m b k k d
here {j = j} {d} p h = record { place = j; total = d; path = p; there = h; rest = omega arith }

pub through : {s q L U : ℕ → ℤ} {m b i j d : ℕ} (k : ℕ) → Envelope q m b L U → WarpPath s q b i j d → j < m → k ≤ i → Through s q L U m b k i d
through k e start h l = let z : k ≡ 0 = omega arith in rw z (here start h)
through {s} k e (first {i} {j} p n) h l = elim (dec_le k i) [
  | yes before ↦ down _ (apart-le s e h n) (through k e p h before)
  | no f ↦ let z : k ≡ suc i = omega arith in rw z (here (first p n) h)
]
through k e (second p n) h l = along _ (through k e p (omega arith) l)
through {s} k e (both {i} {j} p n) h l = elim (dec_le k i) [
  | yes before ↦ down _ (apart-le s e h n) (through k e p (omega arith) before)
  | no f ↦ let z : k ≡ suc i = omega arith in rw z (here (both p n) h)
]
