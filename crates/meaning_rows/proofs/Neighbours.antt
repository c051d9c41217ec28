-- Merging by counts: the touching neighbours of two sets, counted over the runs of one of them, by the offset before a run and the offset after it.
use Rattle.meaning_numbers.specs.Sum.{bit, count}
use Rattle.meaning_numbers.proofs.Prelude.{◌≡◌, refl, ap, Bool, true, false, not, ◌&&◌, ◌||◌, List, [], ◌∷◌, ◌++◌, ℕ, zero, suc, ◌+◌, ◌<◌, arith, le_step, clash}
use Rattle.meaning_rows.specs.Runs.{before, reach, take_in, runs, run_count}
use Rattle.meaning_rows.proofs.Runs.{Next, runs-next, begins, crosses, either, before-apart, runs-union}
use Rattle.meaning_rows.proofs.Columns.{lefts, rights, lefts-reach, lefts-end, rights-end}

unfoldable pub sum_over : (ℕ → ℕ) → List ℕ → ℕ
sum_over f [] = 0
sum_over f (x ∷ xs) = f x + sum_over f xs

sum-end : (f : ℕ → ℕ) (xs : List ℕ) (x : ℕ) → sum_over f (xs ++ (x ∷ [])) ≡ sum_over f xs + f x
unfolding sum_over
sum-end f [] x = omega arith
sum-end f (y ∷ xs) x = omega (arith, sum-end f xs x)

-- ---- the offset before each run

module _ (p : ℕ → Bool) where
  abbrev pre : ℕ → ℕ
  pre l = bit (before p l)

  abbrev post : ℕ → ℕ
  post r = bit (p (suc r))

  lefts-sum : (a b : Bool) (xs : List (ℕ × ℕ)) (n : ℕ) → sum_over pre (lefts (take_in a b xs n)) ≡ sum_over pre (lefts xs) + bit ((a && not b) && before p n)
  unfolding take_in bit
  lefts-sum false b xs n = omega arith
  lefts-sum true true xs n = rw (lefts-reach xs n) (omega arith)
  lefts-sum true false xs n = rw (lefts-end xs (n, n)) (sum-end pre _ n)

  starts-sum : (q : ℕ → Bool) (n : ℕ) → sum_over pre (lefts (runs q n)) ≡ count (λ j. begins q j && before p j) n
  unfolding runs lefts sum_over count begins
  starts-sum q zero = refl
  starts-sum q (suc n) = omega (arith, lefts-sum (q n) (before q n) (runs q n) n, starts-sum q n)

  -- ---- the offset after each run

  reach-sum : (xs : List (ℕ × ℕ)) (n : ℕ) → Next true xs n → sum_over post (rights (reach xs n)) + bit (p n) ≡ sum_over post (rights xs) + bit (p (suc n))
  unfolding reach rights sum_over Next
  reach-sum [] n h = absurd h
  reach-sum (x ∷ []) n h = let e : suc x.1 ≡ n = omega arith in omega (arith, ap (λ (k : ℕ). bit (p k)) e)
  reach-sum (x ∷ y ∷ xs) n h = omega (arith, reach-sum (y ∷ xs) n h)

  ends : (ℕ → Bool) → ℕ → Bool
  ends q j = (before q j && not (q j)) && p j

  rights-sum : (a b : Bool) (xs : List (ℕ × ℕ)) (n c : ℕ) → Next b xs n → sum_over post (rights xs) ≡ c + bit (b && p n)
      → sum_over post (rights (take_in a b xs n)) ≡ c + bit ((b && not a) && p n) + bit (a && p (suc n))
  unfolding take_in bit
  rights-sum false true xs n c h e = omega (arith, e)
  rights-sum false false xs n c h e = omega (arith, e)
  rights-sum true true xs n c h e = omega (arith, e, reach-sum xs n h)
  rights-sum true false xs n c h e = rw (rights-end xs (n, n)) (omega (arith, e, sum-end post (rights xs) n))

  ends-sum : (q : ℕ → Bool) (n : ℕ) → sum_over post (rights (runs q n)) ≡ count (ends q) n + bit (before q n && p n)
  unfolding runs rights sum_over count ends before bit
  ends-sum q zero = refl
  ends-sum q (suc n) = rights-sum (q n) _ _ n _ (runs-next q n) (ends-sum q n)

-- ---- together

one-point : (a b c d : Bool) → (a && b) ≡ false → (c && d) ≡ false → bit ((c && b) || (d && a)) ≡ bit ((b && not d) && c) + bit ((d && not b) && a)
unfolding bit
one-point true true c d h k = clash refl h
one-point true false true true h k = clash refl k
one-point true false true false h k = refl
one-point true false false true h k = refl
one-point true false false false h k = refl
one-point false true true true h k = clash refl k
one-point false true true false h k = refl
one-point false true false true h k = refl
one-point false true false false h k = refl
one-point false false true true h k = clash refl k
one-point false false true false h k = refl
one-point false false false true h k = refl
one-point false false false false h k = refl

count-split : (p q : ℕ → Bool) (n : ℕ) → ((j : ℕ) → j < n → (p j && q j) ≡ false) → count (crosses p q) n ≡ count (λ j. begins q j && before p j) n + count (ends p q) n
unfolding count crosses begins ends
count-split p q zero h = refl
count-split p q (suc n) h =
    omega (arith, count-split p q n (λ j l. h j (le_step l)), one-point (p n) (q n) (before p n) _ (h n (omega arith)) (before-apart p q n h))

-- the touching neighbours of p and q are those before and after the runs of q that stand in p. (What stands at W is no window: where p does not hold there, the last term is 0.)
pub neighbours : (p q : ℕ → Bool) (W : ℕ) → ((j : ℕ) → j < W → (p j && q j) ≡ false)
    → count (crosses p q) W + bit (before q W && p W) ≡ sum_over (λ l. bit (before p l)) (lefts (runs q W)) + sum_over (λ r. bit (p (suc r))) (rights (runs q W))
neighbours p q W h = omega (arith, count-split p q W h, starts-sum p q W, ends-sum p q W)

and-false : (b : Bool) → bit (b && false) ≡ 0
unfolding bit
and-false true = refl
and-false false = refl

-- so a row that joins a group adds to it its own runs less those neighbours
pub runs-joined : (p q : ℕ → Bool) (W : ℕ) → ((j : ℕ) → j < W → (p j && q j) ≡ false) → p W ≡ false
    → run_count (either p q) W + (sum_over (λ l. bit (before p l)) (lefts (runs q W)) + sum_over (λ r. bit (p (suc r))) (rights (runs q W))) ≡ run_count p W + run_count q W
runs-joined p q W h e = let z : bit (before q W && p W) ≡ 0 = rw e (and-false (before q W)) in omega (arith, neighbours p q W h, runs-union p q W h, z)
