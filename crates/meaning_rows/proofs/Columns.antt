-- The run buffer's two columns as a loop writes them: what one more offset does to `lefts (runs p n)` and `rights (runs p n)` in front of what was there.
use Rattle.meaning_numbers.specs.Sum.{bit}
use Rattle.meaning_numbers.proofs.Prelude.{◌≡◌, refl, sym, ap, ◌∙◌, Bool, true, false, not, ◌&&◌, List, [], ◌∷◌, ◌++◌, ℕ, zero, suc, ◌+◌, ◌-◌, ◌<◌, ◌≤◌, arith, add-one, length, set, drop, get_or, length-append, length-drop, drop-cons, set_at, append_snoc, set-append_left}
use Rattle.meaning_rows.specs.{Runs.before, Runs.reach, Runs.take_in, Runs.runs, Runs.run_count, declared.Row.Row}
use Rattle.meaning_rows.proofs.Runs.{runs_none, runs-more, run_count-more, before-none, before_more, before-some}

-- the two columns of runs
unfoldable pub lefts : List (ℕ × ℕ) → List ℕ
lefts [] = []
lefts (x ∷ l) = x.0 ∷ lefts l

unfoldable pub rights : List (ℕ × ℕ) → List ℕ
rights [] = []
rights (x ∷ l) = x.1 ∷ rights l

pub lefts-reach : (l : List (ℕ × ℕ)) (n : ℕ) → lefts (reach l n) ≡ lefts l
unfolding lefts reach
lefts-reach [] n = refl
lefts-reach (x ∷ []) n = refl
lefts-reach (x ∷ y ∷ l) n = rw (lefts-reach (y ∷ l) n)

pub rights-reach : (l : List (ℕ × ℕ)) (n : ℕ) → rights (reach l n) ≡ set (rights l) (length l - 1) n
unfolding rights reach
rights-reach [] n = refl
rights-reach (x ∷ []) n = refl
rights-reach (x ∷ y ∷ l) n =
    let e : length (x ∷ y ∷ l) - 1 ≡ suc (length (y ∷ l) - 1) = omega arith in
    rw e (rw (rights-reach (y ∷ l) n))

pub lefts-end : (l : List (ℕ × ℕ)) (x : ℕ × ℕ) → lefts (l ++ (x ∷ [])) ≡ lefts l ++ (x.0 ∷ [])
unfolding lefts
lefts-end [] x = refl
lefts-end (y ∷ l) x = rw (lefts-end l x)

pub rights-end : (l : List (ℕ × ℕ)) (x : ℕ × ℕ) → rights (l ++ (x ∷ [])) ≡ rights l ++ (x.1 ∷ [])
unfolding rights
rights-end [] x = refl
rights-end (y ∷ l) x = rw (rights-end l x)

pub length-lefts : (l : List (ℕ × ℕ)) → length (lefts l) ≡ length l
unfolding lefts
length-lefts [] = refl
length-lefts (x ∷ l) = ap suc (length-lefts l)

pub length-rights : (l : List (ℕ × ℕ)) → length (rights l) ≡ length l
unfolding rights
length-rights [] = refl
length-rights (x ∷ l) = ap suc (length-rights l)

pub run_count-none : (p : ℕ → Bool) → run_count p 0 ≡ 0
run_count-none p = ap length (runs_none p)

-- what one window's turn does to a column
unfoldable pub put_left : Bool → Bool → List ℕ → ℕ → ℕ → List ℕ
put_left false b l k j = l
put_left true true l k j = l
put_left true false l k j = set l k j

unfoldable pub put_right : Bool → Bool → List ℕ → ℕ → ℕ → List ℕ
put_right false b l k j = l
put_right true true l k j = set l (k - 1) j
put_right true false l k j = set l k j

-- v written behind the front part
pub set_next : (xs old : List ℕ) (k v : ℕ) → length xs ≡ k → k < length old → set (xs ++ drop k old) k v ≡ (xs ++ (v ∷ [])) ++ drop (k + 1) old
set_next xs old k v e h = rw (drop-cons old k 0 h, set_at xs _ _ v k e, add-one k) (sym (append_snoc xs v _))

pub put-left : (a b : Bool) (xs : List (ℕ × ℕ)) (old : List ℕ) (k j : ℕ) → length xs ≡ k → k + bit (a && not b) ≤ length old
    → put_left a b (lefts xs ++ drop k old) k j ≡ lefts (take_in a b xs j) ++ drop (k + bit (a && not b)) old
unfolding put_left take_in bit
put-left false b xs old k j e h = let z : k + 0 ≡ k = omega arith in rw z
put-left true true xs old k j e h = let z : k + 0 ≡ k = omega arith in rw (z, lefts-reach xs j)
put-left true false xs old k j e h = rw (lefts-end xs (j, j)) (set_next (lefts xs) old k j (length-lefts xs ∙ e) (omega arith))

pub put-right : (a b : Bool) (xs : List (ℕ × ℕ)) (old : List ℕ) (k j : ℕ) → length xs ≡ k → k + bit (a && not b) ≤ length old → bit b ≤ k
    → put_right a b (rights xs ++ drop k old) k j ≡ rights (take_in a b xs j) ++ drop (k + bit (a && not b)) old
unfolding put_right take_in bit
put-right false b xs old k j e h m = let z : k + 0 ≡ k = omega arith in rw z
put-right true true xs old k j e h m =
    let z : k + 0 ≡ k = omega arith in let l : k - 1 < length (rights xs) = omega (arith, length-rights xs) in
    rw (z, rights-reach xs j, e) (set-append_left (rights xs) (drop k old) (k - 1) j l)
put-right true false xs old k j e h m = rw (rights-end xs (j, j)) (set_next (rights xs) old k j (length-rights xs ∙ e) (omega arith))

-- more offsets, no fewer runs
pub run_count-step : (p : ℕ → Bool) (n d : ℕ) → run_count p n ≤ run_count p (n + d)
run_count-step p n zero = let e : n + 0 ≡ n = omega arith in rw e (omega arith)
run_count-step p n (suc d) = let e : n + suc d ≡ (n + d) + 1 = omega arith in rw e (omega (arith, run_count-step p n d, run_count-more p (n + d)))

pub run_count-mono : (p : ℕ → Bool) (m n : ℕ) → m ≤ n → run_count p m ≤ run_count p n
run_count-mono p m n h = let e : n ≡ m + (n - m) = omega arith in rw e (run_count-step p m (n - m))

-- ---- the invariant of a loop that fills the two columns, and one turn of it, over plain variables

pub record Filling (p : ℕ → Bool) (left₀ right₀ : List ℕ) (j k : ℕ) (prev : Bool) (left right : List ℕ) : Type 0 where
  pub prev-is : prev ≡ before p j
  pub count-is : k ≡ run_count p j
  pub left_is : left ≡ lefts (runs p j) ++ drop k left₀
  pub right_is : right ≡ rights (runs p j) ++ drop k right₀

pub filling-starts : (p : ℕ → Bool) (left₀ right₀ : List ℕ) → Filling p left₀ right₀ 0 0 false left₀ right₀
unfolding lefts rights
filling-starts p left₀ right₀ = record {
  prev-is = sym (before-none p);
  count-is = sym (run_count-none p);
  left_is = rw (runs_none p);
  right_is = rw (runs_none p);
}

module _ {p : ℕ → Bool} {left₀ right₀ : List ℕ} {j k : ℕ} {prev : Bool} {left right : List ℕ} (f : Filling p left₀ right₀ j k prev left right) where
  runs-long : length (runs p j) ≡ k
  runs-long = sym f.count-is

  pub filling-left : k ≤ length left₀ → length left ≡ length left₀
  filling-left h = omega (arith, runs-long, ap length f.left_is, length-append (lefts (runs p j)) (drop k left₀), length-lefts (runs p j), length-drop k left₀)

  pub filling-right : k ≤ length right₀ → length right ≡ length right₀
  filling-right h = omega (arith, runs-long, ap length f.right_is, length-append (rights (runs p j)) (drop k right₀), length-rights (runs p j), length-drop k right₀)

  module _ {here : Bool} (is : here ≡ p j) where
    next-count : k + bit (here && not prev) ≡ run_count p (j + 1)
    next-count = rw (is, f.prev-is, f.count-is) (sym (run_count-more p j))

    module _ {W : ℕ} (below : j < W) (room : run_count p W ≤ length left₀) (room' : run_count p W ≤ length right₀) where
      fits-left : k + bit (here && not prev) ≤ length left₀
      fits-left = omega (arith, next-count, run_count-mono p (j + 1) W (omega arith))

      fits-right : k + bit (here && not prev) ≤ length right₀
      fits-right = omega (arith, next-count, run_count-mono p (j + 1) W (omega arith))

      prev-le : bit prev ≤ k
      prev-le = rw (f.prev-is, f.count-is) (before-some p j)

      -- what it ensures is the next turn's invariant
      pub filling-next : {k' : ℕ} {left' right' : List ℕ} → k' ≡ k + bit (here && not prev) → left' ≡ put_left here prev left k j → right' ≡ put_right here prev right k j
          → Filling p left₀ right₀ (j + 1) k' here left' right'
      filling-next ek el er = record {
        prev-is = is ∙ sym (before_more p j);
        count-is = ek ∙ next-count;
        left_is = el ∙ rw (f.left_is, put-left here prev _ left₀ k j runs-long fits-left, runs-more p j, ← is, ← f.prev-is, ek);
        right_is = er ∙ rw (f.right_is, put-right here prev _ right₀ k j runs-long fits-right prev-le, runs-more p j, ← is, ← f.prev-is, ek);
      }

pub get_d_past : (o : Row) (l : List Row) (i : ℕ) → length l ≤ i → get_or l i o ≡ o
get_d_past o [] i h = refl
get_d_past o (r ∷ l) zero h = absurd (omega arith)
get_d_past o (r ∷ l) (suc i) h = get_d_past o l i (omega arith)
