-- The table of the warped distance by rows, as code keeps one: cell j stands at place j + 1, and `big` at place 0 and wherever the band has no cell. With that, each cell is made from three numbers by one rule, at the band's edge too (`next-cell`, `first_cell`).
use Prim.Native.Nat.{ℕ, zero, suc, ◌+◌, ◌-◌, ◌<◌, ◌≤◌, min}
use Rattle.std.specs.Prelude.{ℤ, length, get_or, set, List, ◌≡◌}
use Rattle.std.proofs.Common.{get_or-set_same, get_or-set_other, ◌∙◌, add-one}
use Rattle.std.specs.declared.option.Option.{Option}
use Rattle.std.proofs.Math.Path.{refl, sym}
use Rattle.std.proofs.Math.Decide.{dec_le}
use Rattle.std.proofs.Math.Nat.{mul-le-mul_right}
use native.Mathlib.Omega.{arith}
use Rattle.meaning_curves.specs.{Straight.cost, Warp.Near, Warp.WarpPath, Table.warped}
use Rattle.meaning_curves.proofs.Grid.{grid, coded, path-near, path-small, grid-start, grid-out, grid-top, grid-side, grid-inner, grid-distance}
use Rattle.meaning_curves.proofs.Table.{All, missing, there, Under, under, attained, least-total}

-- more than any total: 2048 times the greatest cost
abbrev pub big : ℕ
big = 819200000000

-- the number one place before
unfoldable pub before : ℕ → (ℕ → ℕ) → ℕ → ℕ
before d f zero = d
before d f (suc j) = f j

pub before_more : (d : ℕ) (f : ℕ → ℕ) (j : ℕ) → before d f (j + 1) ≡ f j
unfolding before
before_more d f j = rw (add-one j)

pub before-none : (d : ℕ) (f : ℕ → ℕ) → before d f 0 ≡ d
unfolding before
before-none d f = refl

-- a row of m cells as it stands in a list
pub record RowIs (f : ℕ → ℕ) (m : ℕ) (row : List ℕ) : Type 0 where
  pub at : (k : ℕ) → k ≤ m → get_or row k 0 ≡ before big f k

-- a number that is at most each cell of row i
pub record LeastOf (f : ℕ → ℕ) (b i m r : ℕ) : Type 0 where
  pub at : (j : ℕ) → j < m → Near b i j → r ≤ f j

-- a row that is made as far as cell j: new cells, and then those of the row before
pub record Halfway (f g : ℕ → ℕ) (j m : ℕ) (row : List ℕ) : Type 0 where
  pub done : (k : ℕ) → k ≤ j → get_or row k 0 ≡ before big g k
  pub rest : (k : ℕ) → j < k → k ≤ m → get_or row k 0 ≡ before big f k

before-big : (k : ℕ) → before big (λ _. big) k ≡ big
unfolding before
before-big zero = refl
before-big (suc k) = refl

-- ---- small and least numbers

coded-le : {P : ℕ → Type 0} (d : ℕ) {o : Option ℕ} → All P o → ((t : ℕ) → P t → t ≤ d) → coded d o ≤ d
unfolding coded
coded-le d missing f = omega arith
coded-le d (there {t} p) f = f t p

coded-under : (d : ℕ) {o : Option ℕ} {n : ℕ} → Under o n → coded d o ≤ n
unfolding coded
coded-under d (under t n h) = h

module _ (s q : ℕ → ℤ) (b : ℕ) where
  abbrev pub cells : ℕ → ℕ → ℕ
  cells i = grid s q b big i

  -- the least number of a row is at most the total of each path to it
  pub least-path : (i m r : ℕ) {j t : ℕ} → LeastOf (cells i) b i m r → j < m → WarpPath s q b i j t → r ≤ t
  unfolding grid
  least-path i m r {j} l h p = omega (arith, l.at j h (path-near p), coded-under big (least-total s q b p))

  pub last-cell : (m : ℕ) → 0 < m → before big (cells (m - 1)) m ≡ warped s q b m
  last-cell m h = let e : m ≡ m - 1 + 1 = omega arith in sym (rw (sym e) at (sym (before_more big (cells (m - 1)) (m - 1)))) ∙ grid-distance s q b big m

  -- ---- outside the band

  pub low-new : (i k : ℕ) → k ≤ i + 1 - b → before big (cells (i + 1)) k ≡ big
  unfolding before
  low-new i zero h = refl
  low-new i (suc k) h = grid-out s q b big (i + 1) k (λ n. omega (arith, n.first))

  pub low-old : (i k : ℕ) → k < i + 1 - b → before big (cells i) k ≡ big
  unfolding before
  low-old i zero h = refl
  low-old i (suc k) h = grid-out s q b big i k (λ n. omega (arith, n.first))

  pub high_same : (i k : ℕ) → i + b + 2 < k → before big (cells i) k ≡ before big (cells (i + 1)) k
  unfolding before
  high_same i zero h = refl
  high_same i (suc k) h = grid-out s q b big i k (λ n. omega (arith, n.second)) ∙ sym (grid-out s q b big (i + 1) k (λ n. omega (arith, n.second)))

  pub high-first : (k : ℕ) → b + 1 < k → before big (cells 0) k ≡ big
  unfolding before
  high-first zero h = refl
  high-first (suc k) h = grid-out s q b big 0 k (λ n. omega (arith, n.second))

  -- ---- where a row starts and ends

  pub row-start : (i m : ℕ) (row : List ℕ) → i + 1 - b ≤ m → m < length row → RowIs (cells i) m row → Halfway (cells i) (cells (i + 1)) (i + 1 - b) m (set row (i + 1 - b) big)
  row-start i m row h long r = record {
    done = λ k l. elim (dec_le (i + 1 - b) k) [
      | yes g ↦ let e : k ≡ i + 1 - b = omega arith in rw e (get_or-set_same row (i + 1 - b) big 0 (omega arith) ∙ sym (low-new i (i + 1 - b) (omega arith)))
      | no f ↦ get_or-set_other row (i + 1 - b) k big 0 (λ e. omega arith) ∙ r.at k (omega arith) ∙ low-old i k (omega arith) ∙ sym (low-new i k l)
    ];
    rest = λ k l u. get_or-set_other row (i + 1 - b) k big 0 (λ e. omega arith) ∙ r.at k u;
  }

  pub row-end : (i hi m : ℕ) (row : List ℕ) → hi ≡ min (i + 1 + b + 1) m → Halfway (cells i) (cells (i + 1)) hi m row → RowIs (cells (i + 1)) m row
  row-end i hi m row e h = record {
    at = λ k l. elim (dec_le k hi) [
      | yes g ↦ h.done k g
      | no f ↦ h.rest k (omega arith) l ∙ high_same i k (omega arith)
    ];
  }

  pub first-start : (m : ℕ) (row : List ℕ) → ((k : ℕ) → k ≤ m → get_or row k 0 ≡ big) → Halfway (λ _. big) (cells 0) 0 m row
  first-start m row h = record {
    done = λ k l. let e : k ≡ 0 = omega arith in rw e (h 0 (omega arith) ∙ sym (before-none big (cells 0)));
    rest = λ k l u. h k u ∙ sym (before-big k);
  }

  pub first-end : (hi m : ℕ) (row : List ℕ) → hi ≡ min (0 + b + 1) m → Halfway (λ _. big) (cells 0) hi m row → RowIs (cells 0) m row
  first-end hi m row e h = record {
    at = λ k l. elim (dec_le k hi) [
      | yes g ↦ h.done k g
      | no f ↦ h.rest k (omega arith) l ∙ before-big k ∙ sym (high-first k (omega arith))
    ];
  }

  -- ---- the rule

  module _ (small : (x y : ℕ) → cost (s x) (q y) ≤ 400000000) where
    pub cell-le : (i j : ℕ) → i + j + 1 ≤ 2048 → cells i j ≤ big
    unfolding grid
    cell-le i j h = coded-le big (attained s q b i j) (λ t p. omega (arith, path-small 400000000 (λ x y k l. small x y) p, mul-le-mul_right {m = i + j + 1} {n = 2048} 400000000 h))

    pub before-le : (i j : ℕ) → i + j ≤ 2048 → before big (cells i) j ≤ big
    unfolding before
    before-le i zero h = omega arith
    before-le i (suc j) h = cell-le i j (omega arith)

    pub next-cell : (i j : ℕ) → i + j + 2 ≤ 2048 → Near b (i + 1) j
        → cells (i + 1) j ≡ min (min (before big (cells i) j) (cells i j)) (before big (cells (i + 1)) j) + cost (s (i + 1)) (q j)
    unfolding before
    next-cell i zero h n = let e = rw (add-one i) at n in rw (add-one i) (omega (arith, grid-side s q b big i e, cell-le i 0 (omega arith)))
    next-cell i (suc j) h n =
        let e = rw (add-one i) at n in
        rw (add-one i) (omega (arith, grid-inner s q b big 400000000 i j (λ x y k l. small x y) (omega (arith, mul-le-mul_right {m = i + j + 2} {n = 2048} 400000000 (omega arith))) e))

    pub first_cell : (j : ℕ) → Near b 0 j → cells 0 j ≡ before 0 (cells 0) j + cost (s 0) (q j)
    unfolding before
    first_cell zero n = omega (arith, grid-start s q b big)
    first_cell (suc j) n = omega (arith, grid-top s q b big j n)

    -- the least number so far
    pub least_more : (i lo j v least : ℕ) → v ≡ cells i j → ((n : ℕ) → lo ≤ n → n < j → least ≤ cells i n) → (n : ℕ) → lo ≤ n → n < j + 1 → min v least ≤ cells i n
    least_more i lo j v least e h n l u = elim (dec_le (suc n) j) [
      | yes k ↦ omega (arith, h n l k)
      | no f ↦ let same : n ≡ j = omega arith in rw same (omega arith)
    ]
