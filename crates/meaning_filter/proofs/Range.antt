-- The raw range. A sum of s over a part exceeds the upper envelope's by at most the sum of the excesses there (`above-sum`), and the lower envelope's exceeds it by no more (`below-sum`).
-- The square of that sum is at most w × E (Cauchy, and a part of a sum of squares is at most the whole), so the sum is at most the root (`excess-sum`).
use Rattle.meaning_numbers.specs.{Sum.Σℤ, Sum.Σℕ, Sum.square, Root.IsRoot}
use Rattle.meaning_numbers.proofs.Prelude.{◌≡◌, ℕ, zero, suc, ◌+◌, ◌-◌, ◌*◌, ◌<◌, ◌≤◌, arith, mul-le-mul_left, ℤ, pos, ◌+ℤ◌, ◌-ℤ◌, ◌≤ℤ◌, zarith, z-add, z-sub}
use Rattle.meaning_numbers.proofs.{Sum.Σℕ-part, Cauchy.cauchy, Root.root-most, Between.Between}
use Rattle.meaning_curves.specs.Warp.{WarpPath}
use Rattle.meaning_filter.proofs.{Envelope.Envelope, Bound.excess, Bound.apart, Bound.envelope-bound}

above-sum : (w : ℕ) (s L U : ℕ → ℤ) → Σℤ w s ≤ℤ (Σℤ w U +ℤ pos (Σℕ w (λ k. excess (L k) (U k) (s k))))
unfolding Σℤ Σℕ
above-sum zero s L U = record { le = tt }
above-sum (suc w) s L U =
    let e = Σℕ w (λ k. excess (L k) (U k) (s k)) in
    omega (zarith, above-sum w s L U, z-add (Σℤ w s) (s w), z-add (Σℤ w U) (U w), z-add (Σℤ w U +ℤ U w) (pos (e + (excess (L w) (U w) (s w)))), z-add (Σℤ w U) (pos e), z-sub (s w) (U w))

below-sum : (w : ℕ) (s L U : ℕ → ℤ) → Σℤ w L ≤ℤ (Σℤ w s +ℤ pos (Σℕ w (λ k. excess (L k) (U k) (s k))))
unfolding Σℤ Σℕ
below-sum zero s L U = record { le = tt }
below-sum (suc w) s L U =
    let e = Σℕ w (λ k. excess (L k) (U k) (s k)) in
    omega (zarith, below-sum w s L U, z-add (Σℤ w L) (L w), z-add (Σℤ w s) (s w), z-add (Σℤ w s +ℤ s w) (pos (e + (excess (L w) (U w) (s w)))), z-add (Σℤ w s) (pos e), z-sub (L w) (s w))

-- the sum of the excesses over a part is at most the root
pub excess-sum : (a : ℕ → ℕ) (m p w E r : ℕ) → p + w ≤ m → Σℕ m (λ k. square (a k)) ≤ E → IsRoot (w * E) r → Σℕ w (λ k. a (p + k)) ≤ r
excess-sum a m p w E r fits small i =
    let part : Σℕ w (λ k. square (a (p + k))) ≤ E = omega (arith, Σℕ-part m p w (λ k. square (a k)) fits) in
    root-most i (omega (arith, cauchy w (λ k. a (p + k)), mul-le-mul_left w part))

-- the sum of a part of w places from p on, where the squared excesses of all m places are at most E
pub raw-range : (s L U : ℕ → ℤ) (m p w E r : ℕ) → p + w ≤ m → Σℕ m (apart s L U) ≤ E → IsRoot (w * E) r
    → Between (Σℤ w (λ k. L (p + k)) -ℤ pos r) (Σℤ w (λ k. s (p + k))) (Σℤ w (λ k. U (p + k)) +ℤ pos r)
raw-range s L U m p w E r fits small i =
    let S = Σℤ w (λ k. s (p + k)) in
    let Q⁻ = Σℤ w (λ k. L (p + k)) in
    let Q⁺ = Σℤ w (λ k. U (p + k)) in
    let e = Σℕ w (λ k. excess (L (p + k)) (U (p + k)) (s (p + k))) in
    let h = excess-sum (λ k. excess (L k) (U k) (s k)) m p w E r fits small i in
    let above = above-sum w (λ k. s (p + k)) (λ k. L (p + k)) (λ k. U (p + k)) in
    let below = below-sum w (λ k. s (p + k)) (λ k. L (p + k)) (λ k. U (p + k)) in
    record {
      low = omega (zarith, h, z-sub Q⁻ (pos r), z-add S (pos e));
      high = omega (zarith, h, z-add Q⁺ (pos r), z-add Q⁺ (pos e));
    }

-- in particular where there is a path of total at most E
pub path-range : {s q L U : ℕ → ℤ} {b t : ℕ} (m p w E r : ℕ) → 0 < m → p + w ≤ m → Envelope q m b L U → WarpPath s q b (m - 1) (m - 1) t → t ≤ E → IsRoot (w * E) r
    → Between (Σℤ w (λ k. L (p + k)) -ℤ pos r) (Σℤ w (λ k. s (p + k))) (Σℤ w (λ k. U (p + k)) +ℤ pos r)
path-range {s} {L = L} {U} m p w E r long fits e path small i =
    let last : suc (m - 1) ≡ m = omega arith in
    raw-range s L U m p w E r fits (omega (arith, rw last at (envelope-bound e path (omega arith)))) i
