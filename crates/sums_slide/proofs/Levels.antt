-- Laws of specs/Levels.
use Rattle.meaning_numbers.specs.Sum.{Σℕ}
use Rattle.meaning_numbers.proofs.Slide.{Σℕ-slide}
use Rattle.meaning_numbers.proofs.Prelude.{◌≡◌, refl, List, ℕ, ◌+◌, ◌*◌, min, max, dec_lt, arith, ℤ, Rep, rep-by, rep-eq, rep-sub, rep_pos}
use Rattle.meaning_curves.specs.Curve.{at, stretch, window_sum}
use Rattle.numbers.specs.Raised.{raised}
use Rattle.values.proofs.SumsLaws.{sum-raised}
use Rattle.sums_slide.specs.{declared.Window.Window, Levels.level, Levels.Lent, Levels.sum_at, Levels.Bounds}

-- one number is both ends
pub bounds-one : {lv : ℕ → ℕ} {z : ℕ} → z ≡ lv 0 → Bounds lv 1 z z
bounds-one e = record { bound = λ j k. let i : j ≡ 0 = omega arith in rw i (omega arith, omega arith) }

-- one more number
pub bounds-more : {lv : ℕ → ℕ} {n l g : ℕ} (a b z : ℕ) → Bounds lv n l g → z ≡ lv n → a ≡ min l z → b ≡ max g z → Bounds lv (n + 1) a b
bounds-more {lv} {n} {l} {g} a b z h e p q = record {
  bound = λ j k. elim (dec_lt j n) [
    | yes m ↦ let v = h.bound j m in (omega arith, omega arith)
    | no m ↦ let i : j ≡ n = omega arith in rw i (omega arith, omega arith)
  ];
}

pub level-is : {s : List ℤ} {w e : ℕ} (j : ℕ) → Lent s w e → Rep (window_sum s w j) (level s w e j) (10000 * w + e)
unfolding level window_sum
level-is {s} {w} {e} j h = rep-by (sum-raised j w h.all) (omega arith)

-- a placed window's sum is the window's
pub sum_is : {s : List ℤ} {w e : ℕ} (at : Window) → Lent s w e → at.level ≡ level s w e at.offset → sum_at w e at ≡ window_sum s w at.offset
sum_is {s} {w} {e} at h l = rep-eq (rep-sub (rep_pos at.level) (rep_pos (10000 * w + e))) (level-is at.offset h) (omega (arith, l))

-- one value comes in, one goes out
pub level-next : (s : List ℤ) (w e j : ℕ) → level s w e (j + 1) + raised (at s j) ≡ level s w e j + raised (at s (j + w))
unfolding level
level-next s w e j = omega (arith, Σℕ-slide (λ k. raised (at s k)) j w)

pub level-first : (s : List ℤ) (w e : ℕ) → level s w e 0 ≡ Σℕ w (λ k. raised (stretch s 0 k)) + e
unfolding level
level-first s w e = refl
