-- The first new run joined to the last old run of its row: what the code does, and that the parts then hold the runs up to its end (`joined-parts`, `joined-cursors`).
use Prim.Native.Nat.{ℕ, zero, suc, ◌+◌, ◌-◌, ◌<◌, ◌≤◌}
use Rattle.std.proofs.Common.{eqb-true, length-set, get_or-set_other, sym, ap, ◌∙◌}
use Rattle.std.proofs.lemmas.Bool.{eqb-false}
use Rattle.std.specs.Prelude.{eqb, ℤ, length, set, Bool, false, not, ◌&&◌, List, ◌≡◌}
use Rattle.std.proofs.Math.Seq.{set-set}
use Rattle.std.proofs.Math.Bool.{true}
use Rattle.std.proofs.Math.Path.{refl}
use Rattle.std.proofs.Math.Decide.{dec_lt}
use native.Mathlib.Omega.{arith}
use Rattle.meaning_numbers.specs.Sum.{bit}
use Rattle.meaning_numbers.proofs.Tests.{by-test}
use Rattle.meaning_rows.specs.Runs.{before, run_count}
use Rattle.meaning_rows.proofs.{Runs.run_count-more, Runs.before_more, Runs.before-some, Columns.put_left, Columns.put_right, Columns.run_count-mono, Parts.Laid, Parts.Parts, Parts.stay-runs, Cursors.Cursors}
use Rattle.sums_slide.specs.{declared.Window.Window, Levels.level, Levels.windows_of, Levels.within, Change.Stop}
use Rattle.extend_new.specs.Turn.{parts-turn}

-- where the first new run joins, its window is in the range and the spot in the buffer
pub record Joinable (s : List ℤ) (w e : ℕ) (at : Window) (joins : Bool) (low up spot size : ℕ) : Type 0 where
  pub begins : joins ≡ true → at.offset < windows_of s w
  pub sum : joins ≡ true → at.level ≡ level s w e at.offset
  pub holds : joins ≡ true → within low up (level s w e at.offset) ≡ true
  pub fits : joins ≡ true → spot < size

-- the run is joined, or nothing is done
pub record JoinedRun (s : List ℤ) (w e : ℕ) (at : Window) (joins : Bool) (low up spot : ℕ) (before : List ℕ) (t : Window) (after : List ℕ) : Type 0 where
  pub stays : joins ≡ false → (t ≡ at) × (after ≡ before)
  pub stop : joins ≡ true → Stop (level s w e) (windows_of s w) low up at.offset t.offset t.level
  pub ahead : joins ≡ true → at.offset < t.offset
  pub wrote : joins ≡ true → after ≡ set before spot (t.offset - 1)

-- a run that goes on has no new beginning
goes_on : (p : ℕ → Bool) (from m : ℕ) → before p from ≡ true → ((j : ℕ) → from ≤ j → j < from + m → p j ≡ true) → run_count p (from + m) ≡ run_count p from
unfolding bit
goes_on p from zero b h = let e : from + 0 ≡ from = omega arith in rw e
goes_on p from (suc m) b h =
    let e : from + suc m ≡ (from + m) + 1 = omega arith in
    let here = before_on p from m b (λ j a l. h j a (omega arith)) in
    let s : bit (p (from + m) && not (before p (from + m))) ≡ 0 = rw (h (from + m) (omega arith) (omega arith), here) in
    rw e (omega (arith, run_count-more p (from + m), s, goes_on p from m b (λ j a l. h j a (omega arith))))
  where
    before_on : (p : ℕ → Bool) (from m : ℕ) → before p from ≡ true → ((j : ℕ) → from ≤ j → j < from + m → p j ≡ true) → before p (from + m) ≡ true
    before_on p from zero b h = let e : from + 0 ≡ from = omega arith in rw e b
    before_on p from (suc m) b h = let e : from + suc m ≡ (from + m) + 1 = omega arith in rw e (before_more p (from + m) ∙ h (from + m) (omega arith) (omega arith))

module _ (R W : ℕ) (P : ℕ → ℕ → Bool) (first : ℕ → ℕ) (total : ℕ) (laid : Laid R W P first total) (i from : ℕ) (i_r : i < R) (joins : before (P i) from ≡ true) (left right : List ℕ) (rl : total ≤ length left) (rr : total ≤ length right) where
  -- where the run that goes on has its right end
  abbrev pub spot : ℕ
  spot = first i + run_count (P i) from - 1

  some : 1 ≤ run_count (P i) from
  unfolding bit
  some = omega (arith, rw joins at (before-some (P i) from))

  module _ (start : Parts R W P first from left right) where
    pub joined-parts : (m : ℕ) → from + suc m ≤ W → ((j : ℕ) → from ≤ j → j < from + suc m → P i j ≡ true) → ((j k : ℕ) → from ≤ j → j < from + suc m → k < R → (k ≡ i → ⊥) → P k j ≡ false)
        → Parts R W P first (from + suc m) left (set right spot (from + m))
    unfolding put_left put_right
    joined-parts zero h mine others =
        let q : from + 0 ≡ from = omega arith in
        let e : first i + run_count (P i) from - 1 ≡ spot = refl in
        let t = parts-turn R W P first total laid from i (omega arith) i_r (mine from (omega arith) (omega arith)) (λ k l f. others from k (omega arith) (omega arith) l f) left right rl rr start in
        rw q (rw joins at t)
    joined-parts (suc m) h mine others =
        let q : from + suc (suc m) ≡ (from + suc m) + 1 = omega arith in
        let b : before (P i) (from + suc m) ≡ true = let z : from + suc m ≡ (from + m) + 1 = omega arith in rw (z, before_more (P i) (from + m)) (mine (from + m) (omega arith) (omega arith)) in
        let same : run_count (P i) (from + suc m) ≡ run_count (P i) from = goes_on (P i) from (suc m) joins (λ j a l. mine j a (omega arith)) in
        let was = joined-parts m (omega arith) (λ j a l. mine j a (omega arith)) (λ j k a l. others j k a (omega arith)) in
        let t = parts-turn R W P first total laid (from + suc m) i (omega arith) i_r (mine (from + suc m) (omega arith) (omega arith)) (λ k l f. others (from + suc m) k (omega arith) (omega arith) l f)
        left (set right spot (from + m)) rl (rw (length-set right spot (from + m)) rr) was in
        rw q (rw (b, same, set-set right spot (from + m) (from + suc m)) at t)

  module _ (c : Cursors R W P first from right) (m : ℕ) (end : from + suc m ≤ W) (mine : (j : ℕ) → from ≤ j → j < from + suc m → P i j ≡ true) (others : (j k : ℕ) → from ≤ j → j < from + suc m → k < R → (k ≡ i → ⊥) → P k j ≡ false) where
    -- the last entry of a part that is not full is not the spot
    away : (k : ℕ) → k < R → run_count (P k) from < run_count (P k) W → first k + run_count (P k) W - 1 ≡ spot → ⊥
    away k h l e = elim (dec_lt k i) [
      | yes a ↦ omega (arith, laid.apart k i a i_r, some)
      | no f ↦ elim (dec_lt i k) [
        | yes a ↦ omega (arith, laid.apart i k a h, some, run_count-mono (P i) from W (omega arith))
        | no g ↦ let q : k ≡ i = omega arith in omega (arith, ap (λ (x : ℕ). run_count (P x) from) q, ap (λ (x : ℕ). run_count (P x) W) q, ap first q, some)
      ]
    ]

    count_same : (k : ℕ) → k < R → run_count (P k) (from + suc m) ≡ run_count (P k) from
    count_same k h = by-test (eqb k i)
        (λ t. let q = eqb-true k i t in rw q (goes_on (P i) from (suc m) joins mine))
        (λ t. ap length (stay-runs (P k) from (suc m) (λ j a l. others j k a l h (eqb-false k i t))))

    pub joined-cursors : Cursors R W P first (from + suc m) (set right spot (from + m))
    joined-cursors = record {
      cursor = λ k h l.
          let e = count_same k h in
          let less : run_count (P k) from < run_count (P k) W = omega arith in
          get_or-set_other right spot (first k + run_count (P k) W - 1) (from + m) 0 (away k h less) ∙ c.cursor k h less ∙ sym e;
    }
