-- Envelopes of m values ask for those values alone: curves that agree below m have the same (`lower-same`, `upper-same`), and so the same sums over a part.
use Rattle.meaning_numbers.proofs.Sum.{Σℤ-same}
use Rattle.meaning_numbers.proofs.Prelude.{◌≡◌, ◌∙◌, List, ℕ, zero, suc, ◌+◌, ◌-◌, ◌<◌, ◌≤◌, arith, ℤ}
use Rattle.meaning_curves.specs.Curve.{at, window_sum}
use Rattle.meaning_curves.proofs.Same.{Same}
use Rattle.meaning_filter.specs.Range.{lower_sum, upper_sum}
use Rattle.meaning_filter.specs.Envelope.{least_of, greatest_of, lower, upper}
use Rattle.distance_envelope.specs.Envelope.{Envelopes}

least-same : (s t : ℕ → ℤ) (k n : ℕ) → ((j : ℕ) → k ≤ j → j ≤ k + n → s j ≡ t j) → least_of s k n ≡ least_of t k n
unfolding least_of
least-same s t k zero h = h k (omega arith) (omega arith)
least-same s t k (suc n) h = rw (least-same s t k n (λ j a l. h j a (omega arith)), h (k + suc n) (omega arith) (omega arith))

greatest-same : (s t : ℕ → ℤ) (k n : ℕ) → ((j : ℕ) → k ≤ j → j ≤ k + n → s j ≡ t j) → greatest_of s k n ≡ greatest_of t k n
unfolding greatest_of
greatest-same s t k zero h = h k (omega arith) (omega arith)
greatest-same s t k (suc n) h = rw (greatest-same s t k n (λ j a l. h j a (omega arith)), h (k + suc n) (omega arith) (omega arith))

module _ {m : ℕ} {s t : ℕ → ℤ} (h : Same m s t) (b : ℕ) where
  pub lower-same : (i : ℕ) → i < m → lower s m b i ≡ lower t m b i
  unfolding lower
  lower-same i l = least-same s t (i - b) _ (λ j a k. h.at j (omega arith))

  pub upper-same : (i : ℕ) → i < m → upper s m b i ≡ upper t m b i
  unfolding upper
  upper-same i l = greatest-same s t (i - b) _ (λ j a k. h.at j (omega arith))

-- the sums of the envelopes, as lists have them, over the w places from `from` on
module _ {curve low high : List ℤ} {m b : ℕ} {t : ℕ → ℤ} (from w : ℕ) (h : Same m (at curve) t) (e : Envelopes curve m b low high) (fits : from + w ≤ m) where
  pub low_sum : window_sum low w from ≡ lower_sum t m b from w
  unfolding window_sum lower_sum
  low_sum = Σℤ-same w (λ k. at low _) (λ k. lower t m b _) (λ k l. e.below.at _ (omega arith) ∙ lower-same h b _ (omega arith))

  pub high_sum : window_sum high w from ≡ upper_sum t m b from w
  unfolding window_sum upper_sum
  high_sum = Σℤ-same w (λ k. at high _) (λ k. upper t m b _) (λ k l. e.above.at _ (omega arith) ∙ upper-same h b _ (omega arith))
