-- The scale. The cut's bounds summed over w places (`sum_low`, `sum-high`): (N - w) × ρ - C ≤ 100 × K × Σc ≤ (N + w) × ρ + C.
-- With u² ≤ A ≤ v² the root ρ of K² × A lies between K × u and K × v (`root-between`). So K × min(X × u, X × v) ≤ X × ρ ≤ (N - w) × ρ, by the sign of X, and with K = C + 1 all but C is a multiple of K: the rest C is less than one more (`cancel`).
-- `low-scale` and `high-scale` say that document 01's u and v are such numbers.
use Rattle.meaning_numbers.specs.{Sum.Σℤ, Sum.Σℕ, Sum.square, Root.IsRoot, Root.root, Order.minℤ, Order.maxℤ}
use Rattle.meaning_numbers.proofs.Prelude.{ℕ, zero, suc, ◌+◌, ◌*◌, ◌/◌, ◌<◌, ◌≤◌, arith, mul-le-mul_left, mul-le-mul_right, mul-pos, le_step, le_of_mul-le-mul_right, le-div_iff_mul-le, dec_le, ℤ, pos, negsuc, ◌+ℤ◌, ◌-ℤ◌, ◌*ℤ◌, ◌≤ℤ◌, rep-self, rep_pos, rep_add, rep-sub, rep_mul, rep-le, le-rep, z-le}
use Rattle.meaning_numbers.proofs.{Root.root_is, Root.root-most, Root.le-of-sq-le, Order.minℤ-le, Order.maxℤ-le, Between.Between}
use Rattle.meaning_curves.specs.Normal.{IsCut, signed}
use Rattle.meaning_filter.specs.Range.{low_scale, high_scale}
use Rattle.meaning_filter.proofs.Cut.{cut_range}

-- ---- the sums

pub sum_low : (w H ρ : ℕ) (n c : ℕ → ℤ) (t : ℕ → ℕ) → ((k : ℕ) → k < w → ((n k -ℤ pos 1) *ℤ pos ρ -ℤ pos (t k + 1)) ≤ℤ (pos H *ℤ c k))
    → ((Σℤ w n -ℤ pos w) *ℤ pos ρ -ℤ pos (Σℕ w (λ k. t k + 1))) ≤ℤ (pos H *ℤ Σℤ w c)
unfolding Σℤ Σℕ
sum_low zero H ρ n c t h = rep-le (rep-sub (rep_mul (rep-sub (rep_pos 0) (rep_pos 0)) (rep_pos ρ)) (rep_pos 0)) (rep_mul (rep_pos H) (rep_pos 0)) (omega arith)
sum_low (suc w) H ρ n c t h =
    let N = rep-self (Σℤ w n) in
    let X = rep-self (n w) in
    let S = rep-self (Σℤ w c) in
    let Y = rep-self (c w) in
    let C = Σℕ w (λ k. t k + 1) in
    let before = le-rep (rep-sub (rep_mul (rep-sub N (rep_pos w)) (rep_pos ρ)) (rep_pos C)) (rep_mul (rep_pos H) S) (sum_low w H ρ n c t (λ k l. h k (le_step l))) in
    let last = le-rep (rep-sub (rep_mul (rep-sub X (rep_pos 1)) (rep_pos ρ)) (rep_pos (t w + 1))) (rep_mul (rep_pos H) Y) (h w (omega arith)) in
    rep-le (rep-sub (rep_mul (rep-sub (rep_add N X) (rep_pos (suc w))) (rep_pos ρ)) (rep_pos (C + (t w + 1)))) (rep_mul (rep_pos H) (rep_add S Y)) (omega arith)

pub sum-high : (w H ρ : ℕ) (n c : ℕ → ℤ) (t : ℕ → ℕ) → ((k : ℕ) → k < w → (pos H *ℤ c k) ≤ℤ ((n k +ℤ pos 1) *ℤ pos ρ +ℤ pos (t k + 1)))
    → (pos H *ℤ Σℤ w c) ≤ℤ ((Σℤ w n +ℤ pos w) *ℤ pos ρ +ℤ pos (Σℕ w (λ k. t k + 1)))
unfolding Σℤ Σℕ
sum-high zero H ρ n c t h = rep-le (rep_mul (rep_pos H) (rep_pos 0)) (rep_add (rep_mul (rep_add (rep_pos 0) (rep_pos 0)) (rep_pos ρ)) (rep_pos 0)) (omega arith)
sum-high (suc w) H ρ n c t h =
    let N = rep-self (Σℤ w n) in
    let X = rep-self (n w) in
    let S = rep-self (Σℤ w c) in
    let Y = rep-self (c w) in
    let C = Σℕ w (λ k. t k + 1) in
    let before = le-rep (rep_mul (rep_pos H) S) (rep_add (rep_mul (rep_add N (rep_pos w)) (rep_pos ρ)) (rep_pos C)) (sum-high w H ρ n c t (λ k l. h k (le_step l))) in
    let last = le-rep (rep_mul (rep_pos H) Y) (rep_add (rep_mul (rep_add X (rep_pos 1)) (rep_pos ρ)) (rep_pos _)) (h w (omega arith)) in
    rep-le (rep_mul (rep_pos H) (rep_add S Y)) (rep_add (rep_mul (rep_add (rep_add N X) (rep_pos (suc w))) (rep_pos ρ)) (rep_pos _)) (omega arith)

-- ---- the root of K² × A

pub root-between : {A ρ : ℕ} (u v K : ℕ) → u * u ≤ A → A ≤ v * v → IsRoot (K * K * A) ρ → (K * u ≤ ρ) × (ρ ≤ K * v)
root-between {A} {ρ} u v K hu hv i = (
  root-most i (omega (arith, mul-le-mul_left (K * K) hu)),
  le-of-sq-le (omega (arith, i.low, mul-le-mul_left (K * K) hv)),
)

cancel : (C a b : ℕ) → (C + 1) * a ≤ (C + 1) * b + C → a ≤ b
cancel C a b h = elim (dec_le a b) [ yes l ↦ l | no f ↦ absurd (omega (arith, mul-le-mul_left {m = b + 1} {n = a} (C + 1) (omega arith))) ]

-- ---- the two ends, over any numbers with those bounds

pub scale-low : (C ρ u v : ℕ) (X Z : ℤ) {W M : ℤ} → (C + 1) * u ≤ ρ → ρ ≤ (C + 1) * v → X ≤ℤ W → (W *ℤ pos ρ -ℤ pos C) ≤ℤ (pos (100 * (C + 1)) *ℤ Z)
    → M ≤ℤ (X *ℤ pos u) → M ≤ℤ (X *ℤ pos v) → M ≤ℤ (pos 100 *ℤ Z)
scale-low C ρ u v (pos x) Z {W} {M} hu hv le sum Mu Mv =
    let K = C + 1 in
    let s = le-rep (rep-sub (rep_mul (rep-self W) (rep_pos ρ)) (rep_pos C)) (rep_mul (rep_pos _) (rep-self Z)) sum in
    let l = mul-le-mul_right ρ (z-le le) in
    let m = mul-le-mul_left K (le-rep (rep-self M) (rep_mul (rep_pos x) (rep_pos u)) Mu) in
    let k = mul-le-mul_left x hu in
    rep-le (rep-self M) (rep_mul (rep_pos 100) (rep-self Z)) (cancel C _ _ (omega arith))
scale-low C ρ u v (negsuc x) Z {W} {M} hu hv le sum Mu Mv =
    let K = C + 1 in
    let s = le-rep (rep-sub (rep_mul (rep-self W) (rep_pos ρ)) (rep_pos C)) (rep_mul (rep_pos _) (rep-self Z)) sum in
    let l = mul-le-mul_right ρ (z-le le) in
    let m = mul-le-mul_left K (le-rep (rep-self M) (rep_mul (rep-self (negsuc x)) (rep_pos v)) Mv) in
    let k = mul-le-mul_left (suc x) hv in
    rep-le (rep-self M) (rep_mul (rep_pos 100) (rep-self Z)) (cancel C _ _ (omega arith))

pub scale-high : (C ρ u v : ℕ) (Y Z : ℤ) {W M : ℤ} → (C + 1) * u ≤ ρ → ρ ≤ (C + 1) * v → W ≤ℤ Y → (pos (100 * (C + 1)) *ℤ Z) ≤ℤ (W *ℤ pos ρ +ℤ pos C)
    → (Y *ℤ pos u) ≤ℤ M → (Y *ℤ pos v) ≤ℤ M → (pos 100 *ℤ Z) ≤ℤ M
scale-high C ρ u v (pos y) Z {W} {M} hu hv le sum Mu Mv =
    let K = C + 1 in
    let s = le-rep (rep_mul (rep_pos _) (rep-self Z)) (rep_add (rep_mul (rep-self W) (rep_pos ρ)) (rep_pos C)) sum in
    let l = mul-le-mul_right ρ (z-le le) in
    let m = mul-le-mul_left K (le-rep (rep_mul (rep_pos y) (rep_pos v)) (rep-self M) Mv) in
    let k = mul-le-mul_left y hv in
    rep-le (rep_mul (rep_pos 100) (rep-self Z)) (rep-self M) (cancel C _ _ (omega arith))
scale-high C ρ u v (negsuc y) Z {W} {M} hu hv le sum Mu Mv =
    let K = C + 1 in
    let s = le-rep (rep_mul (rep_pos _) (rep-self Z)) (rep_add (rep_mul (rep-self W) (rep_pos ρ)) (rep_pos C)) sum in
    let l = mul-le-mul_right ρ (z-le le) in
    let m = mul-le-mul_left K (le-rep (rep_mul (rep-self (negsuc y)) (rep_pos u)) (rep-self M) Mu) in
    let k = mul-le-mul_left (suc y) hu in
    rep-le (rep_mul (rep_pos 100) (rep-self Z)) (rep-self M) (cancel C _ _ (omega arith))

-- ---- a sum of normalised values

-- w values with the signs of the c(k) and the sizes t(k), each cut from c(k), and how far their sum is from what was cut
module _ {A : ℕ} (w : ℕ) (c : ℕ → ℤ) (t : ℕ → ℕ) (cuts : (k : ℕ) → k < w → IsCut A (c k) (t k)) where
  -- both sums, for any K
  pub sum-range : {ρ : ℕ} (K : ℕ) → IsRoot (K * K * A) ρ
      → Between ((Σℤ w (λ k. signed (c k) (t k)) -ℤ pos w) *ℤ pos ρ -ℤ pos (Σℕ w (λ k. t k + 1))) (pos (100 * K) *ℤ Σℤ w c)
      ((Σℤ w (λ k. signed (c k) (t k)) +ℤ pos w) *ℤ pos ρ +ℤ pos (Σℕ w (λ k. t k + 1)))
  sum-range {ρ} K i = record {
    low = sum_low w _ ρ (λ k. signed (c k) (t k)) c t (λ k l. (cut_range K (c k) (cuts k l) i).low);
    high = sum-high w _ ρ (λ k. signed (c k) (t k)) c t (λ k l. (cut_range K (c k) (cuts k l) i).high);
  }

  -- the two ends
  pub scale-range : (u v : ℕ) (X Y : ℤ) → u * u ≤ A → A ≤ v * v → X ≤ℤ (Σℤ w (λ k. signed (c k) (t k)) -ℤ pos w) → (Σℤ w (λ k. signed (c k) (t k)) +ℤ pos w) ≤ℤ Y
      → Between (minℤ (X *ℤ pos u) (X *ℤ pos v)) (pos 100 *ℤ Σℤ w c) (maxℤ (Y *ℤ pos u) (Y *ℤ pos v))
  scale-range u v X Y hu hv h_x h_y =
      let C = Σℕ w (λ k. t k + 1) in
      let K = C + 1 in
      let ρ = root _ in
      let i = root_is _ in
      let e = root-between u v K hu hv i in
      let sum = sum-range K i in
      let lo = minℤ-le _ _ in
      let hi = maxℤ-le _ _ in
      record {
        low = scale-low C ρ u v X (Σℤ w c) e.0 e.1 h_x sum.low lo.0 lo.1;
        high = scale-high C ρ u v Y (Σℤ w c) e.0 e.1 h_y sum.high hi.0 hi.1;
      }

-- ---- u and v of document 01: B is the spread of the query, A that of the stretch

pub low-scale : (A B a : ℕ) → 0 < a → 100 * B ≤ a * a * A → square (low_scale B a) ≤ A
low-scale A B a some h =
    let u = low_scale B a in
    let one = mul-pos some some in
    let k : u * u * (a * a) ≤ 100 * B = (le-div_iff_mul-le one).0 (root_is _).low in
    le_of_mul-le-mul_right (omega arith) one

pub high-scale : (A B a : ℕ) → 100 * A ≤ a * a * B → A < square (high_scale B a)
high-scale A B a h = omega (arith, (root_is (a * a * B / 100)).high)
