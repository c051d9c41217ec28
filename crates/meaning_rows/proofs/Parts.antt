-- All rows filled in one pass, in series order: row i has the part of the run buffer from first i on. A run is one run more of its row (`run-runs`), and none of another (`stay-runs`). Over plain variables.
use Rattle.meaning_numbers.specs.Sum.{bit}
use Rattle.meaning_numbers.proofs.Prelude.{◌≡◌, refl, Bool, true, false, not, ◌&&◌, List, [], ◌∷◌, ◌++◌, ℕ, zero, suc, ◌+◌, ◌<◌, ◌≤◌, arith, get_or}
use Rattle.meaning_rows.specs.Runs.{before, reach, take_in, runs, run_count}
use Rattle.meaning_rows.proofs.{Runs.runs-more, Runs.run_count-more, Runs.before_more, Columns.lefts, Columns.rights, Columns.run_count-none}

-- ---- the invariant

module _ (R W : ℕ) (P : ℕ → ℕ → Bool) (first : ℕ → ℕ) where
  -- each row's part ends before the next begins, and all lie in the buffer
  pub record Laid (total : ℕ) : Type 0 where
    pub apart : (i k : ℕ) → i < k → k < R → first i + run_count (P i) W ≤ first k
    pub room : (i : ℕ) → i < R → first i + run_count (P i) W ≤ total

  -- after j windows each row's part begins with the runs of its offsets below j
  pub record Parts (j : ℕ) (left right : List ℕ) : Type 0 where
    pub left_is : (i t : ℕ) → i < R → t < run_count (P i) j → get_or left (first i + t) 0 ≡ get_or (lefts (runs (P i) j)) t 0
    pub right_is : (i t : ℕ) → i < R → t < run_count (P i) j → get_or right (first i + t) 0 ≡ get_or (rights (runs (P i) j)) t 0

  pub parts-start : (left right : List ℕ) → Parts 0 left right
  parts-start left right = record {
    left_is = λ i t h m. absurd (omega (arith, run_count-none (P i)));
    right_is = λ i t h m. absurd (omega (arith, run_count-none (P i)));
  }

-- ---- a whole run at once: the windows from `from` to `from + d` stand in row i, and the window before does not

pub run-count : (p : ℕ → Bool) (from d : ℕ) → before p from ≡ false → ((j : ℕ) → from ≤ j → j < from + suc d → p j ≡ true) → run_count p (from + suc d) ≡ run_count p from + 1
unfolding bit
run-count p from zero e h =
    let q : from + 1 ≡ from + 1 = refl in
    let s : bit (p from && not (before p from)) ≡ 1 = rw (h from (omega arith) (omega arith), e) in
    omega (arith, run_count-more p from, s)
run-count p from (suc d) e h =
    let q : from + suc (suc d) ≡ (from + suc d) + 1 = omega arith in
    let b : before p (from + suc d) ≡ true = let w : from + suc d ≡ (from + d) + 1 = omega arith in rw (w, before_more p _) (h _ (omega arith) (omega arith)) in
    let s : bit (p (from + suc d) && not (before p (from + suc d))) ≡ 0 = rw (h (from + suc d) (omega arith) (omega arith), b) in
    rw q (omega (arith, run_count-more p (from + suc d), s, run-count p from d e (λ j a l. h j a (omega arith))))

reach-end : (l : List (ℕ × ℕ)) (x : ℕ × ℕ) (n : ℕ) → reach (l ++ (x ∷ [])) n ≡ l ++ ((x.0, n) ∷ [])
unfolding reach
reach-end [] x n = refl
reach-end (y ∷ []) x n = refl
reach-end (y ∷ z ∷ l) x n = rw (reach-end (z ∷ l) x n)

pub run-runs : (p : ℕ → Bool) (from d : ℕ) → before p from ≡ false → ((j : ℕ) → from ≤ j → j < from + suc d → p j ≡ true) → runs p (from + suc d) ≡ runs p from ++ ((from, from + d) ∷ [])
unfolding take_in
run-runs p from zero e h =
    let q : from + suc 0 ≡ from + 1 = omega arith in
    let z : from + 0 ≡ from = omega arith in
    rw (q, z, runs-more p from, h from (omega arith) (omega arith), e)
run-runs p from (suc d) e h =
    let q : from + suc (suc d) ≡ (from + suc d) + 1 = omega arith in
    let b : before p (from + suc d) ≡ true = let w : from + suc d ≡ (from + d) + 1 = omega arith in rw (w, before_more p _) (h _ (omega arith) (omega arith)) in
    rw (q, runs-more p _, h (from + suc d) (omega arith) (omega arith), b, run-runs p from d e (λ j a l. h j a (omega arith))) (reach-end (runs p from) (from, from + d) (from + suc d))

-- and where no window stands in a row, its runs stay
pub stay-runs : (p : ℕ → Bool) (from d : ℕ) → ((j : ℕ) → from ≤ j → j < from + d → p j ≡ false) → runs p (from + d) ≡ runs p from
unfolding take_in
stay-runs p from zero h = let e : from + 0 ≡ from = omega arith in rw e
stay-runs p from (suc d) h =
    let e : from + suc d ≡ (from + d) + 1 = omega arith in
    rw (e, runs-more p _, h (from + d) (omega arith) (omega arith)) (stay-runs p from d (λ j a l. h j a (omega arith)))
