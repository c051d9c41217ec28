-- The sum of a window: from the sum of its raised values (`window-raised`), how large it gets (`window-small`), from the window before (`window-next`), and with its last or its first value apart (`window-last`, `but_last`, `but_first`).
use Rattle.meaning_numbers.specs.Sum.{Σℕ, Σℤ}
use Rattle.meaning_numbers.proofs.Prelude.{◌≡◌, List, ℕ, suc, ◌+◌, ◌*◌, ◌≤◌, arith, ℤ, pos, ◌+ℤ◌, ◌-ℤ◌, w32, SFits, to_z, of_z, up, dn, rep-self, rep_pos, rep_add, rep-sub, rep-eq, z-rep, z-add, z-eq}
use Rattle.meaning_numbers.proofs.{Sum.Σℕ-le, Slide.Σℤ-slide}
use Rattle.meaning_curves.specs.Curve.{at, stretch, window_sum}
use Rattle.meaning_curves.proofs.Values.{AllIn}
use Rattle.numbers.specs.Raised.{raised, raised-le}
use Rattle.numbers.proofs.Back.{plus-fits, plus-back, minus-fits, minus-back}
use Rattle.values.proofs.SumsLaws.{sum-raised}

module _ {s : List ℤ} (w j : ℕ) (h : AllIn s) where
  pub window-raised : pos (Σℕ w (λ k. raised (stretch s j k))) -ℤ pos (10000 * w) ≡ window_sum s w j
  unfolding window_sum
  window-raised = rep-eq (rep-sub (rep_pos _) (rep_pos (10000 * w))) (sum-raised j w h) (omega arith)

  pub window-small : (up (window_sum s w j) ≤ dn (window_sum s w j) + 10000 * w) × (dn (window_sum s w j) ≤ up (window_sum s w j) + 10000 * w)
  unfolding window_sum
  window-small =
      let few = Σℕ-le w 20000 (λ k. raised (stretch s j k)) (λ k l. raised-le (h.at (j + k))) in
      (omega (arith, few, z-rep (sum-raised j w h)), omega (arith, few, z-rep (sum-raised j w h)))

pub window-next : (s : List ℤ) (w j : ℕ) → window_sum s w (j + 1) +ℤ at s j ≡ window_sum s w j +ℤ at s (j + w)
unfolding window_sum
window-next s w j = Σℤ-slide (at s) j w

-- ---- as the code makes it: b is the sum as the machine reads it, and a value comes in or goes out

module _ {s : List ℤ} {b : ℤ} (w j : ℕ) (h : AllIn s) (short : w ≤ 256) (is : b ≡ window_sum s w j) (i : ℕ) where
  above : up (window_sum s w j) ≤ dn (window_sum s w j) + 1000000000
  above = omega (arith, window-small w j h)

  below : dn (window_sum s w j) ≤ up (window_sum s w j) + 1000000000
  below = omega (arith, window-small w j h)

  pub in-fits : SFits w32 (b +ℤ to_z w32 (of_z w32 (at s i)))
  in-fits = plus-fits is above below (h.at i)

  pub in_sum : to_z w32 (of_z w32 (b +ℤ to_z w32 (of_z w32 (at s i)))) ≡ window_sum s w j +ℤ at s i
  in_sum = plus-back is above below (h.at i)

  pub out-fits : SFits w32 (b -ℤ to_z w32 (of_z w32 (at s i)))
  out-fits = minus-fits is above below (h.at i)

  pub out-sum : to_z w32 (of_z w32 (b -ℤ to_z w32 (of_z w32 (at s i)))) ≡ window_sum s w j -ℤ at s i
  out-sum = minus-back is above below (h.at i)

-- ---- a window with its last or its first value apart

pub window-last : (s : List ℤ) (w j : ℕ) → window_sum s w j +ℤ at s (j + w) ≡ window_sum s (w + 1) j
unfolding window_sum Σℤ
window-last s w j = let e : w + 1 ≡ suc w = omega arith in rw e

pub but_last : (s : List ℤ) (w j : ℕ) → window_sum s (w + 1) j -ℤ at s (j + w) ≡ window_sum s w j
but_last s w j = rw (← window-last s w j) (rep-eq (rep-sub (rep_add (rep-self (window_sum s w j)) (rep-self _)) (rep-self (at s (j + w)))) (rep-self _) (omega arith))

-- the first goes out, and one comes in behind the last
pub moved_on : (s : List ℤ) (w j : ℕ) → window_sum s w j -ℤ at s j +ℤ at s (j + w) ≡ window_sum s w (j + 1)
moved_on s w j =
    let W = window_sum s w j in
    rep-eq (rep_add (rep-sub (rep-self W) (rep-self (at s j))) (rep-self _)) (rep-self _)
    (omega (arith, z-eq (window-next s w j), z-add (window_sum s w (j + 1)) (at s j), z-add W (at s (j + w))))

pub but_first : (s : List ℤ) (w j : ℕ) → window_sum s (w + 1) j -ℤ at s j ≡ window_sum s w (j + 1)
but_first s w j =
    rep-eq (rep-sub (rep-self (window_sum s (w + 1) j)) (rep-self (at s j))) (rep-self _)
    (omega (arith, z-eq (window-next s w j), z-add (window_sum s w (j + 1)) (at s j), z-eq (window-last s w j), z-add (window_sum s w j) (at s (j + w))))
