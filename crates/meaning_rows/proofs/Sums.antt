-- The limits of window sums: values in their limits have window sums of at most 10,000 w either way (`sum-limits`), so the ends of a sum's row are good ends of a range (`ends-good`).
-- The windows of a series and of a part from its start have the same sums (`sum-of-part`).
use Rattle.meaning_numbers.specs.Order.{within}
use Rattle.meaning_numbers.proofs.Prelude.{◌≡◌, true, not, List, None, ℕ, ◌+◌, ◌*◌, ◌<◌, ◌≤◌, arith, dec_lt, ℤ, pos, negsuc, neg_ℤ, ◌+ℤ◌, length, get_or, take, List·get_d-eq-default, get_or-take, ◌≤ℤ◌, ◌<ℤ◌, not-false, up, dn, rep_pos, rep_neg, rep-le, zarith, z-neg, le_z-true, both, of-both}
use Rattle.meaning_numbers.proofs.{Sum.rep-Σ-self, Sum.Σℕ-le, Sum.Σℤ-same, Member.mem-at, Member.place_none}
use Rattle.meaning_curves.specs.{Limits.value_in, Limits.end_in, Limits.lowest_end, Limits.first_outside, Curve.stretch, Curve.window_sum}
use Rattle.meaning_rows.specs.Range.{row_number, low_of, up_of}
use Rattle.meaning_rows.proofs.{Range.le-le_z, Range.row_below, Range.row-above, Range.up_is, Range.multiple-of, Judge.GoodEnd}

-- every value of a series in its limits; what stands past the end is 0
pub value-in : (s : List ℤ) → first_outside s ≡ None → (k : ℕ) → value_in (get_or s k (pos 0)) ≡ true
unfolding first_outside within
value-in s e k = elim (dec_lt k (length s)) [
  | yes h ↦ not-false _ (place_none 0 (λ x. not (value_in x)) s e _ (mem-at (pos 0) s k h))
  | no f ↦ let h : length s ≤ k = omega arith in rw (List·get_d-eq-default s (pos 0) h)
]

value-limits : (x : ℤ) → value_in x ≡ true → (up x ≤ 10000) × (dn x ≤ 10000)
unfolding within
value-limits x e =
    let b = both _ _ e in
    let lo = le_z-true b.0 in
    let hi = le_z-true b.1 in
    sizes x lo hi
  where
    sizes : (z : ℤ) → negsuc 9999 ≤ℤ z → z ≤ℤ pos 10000 → (up z ≤ 10000) × (dn z ≤ 10000)
    sizes (pos n) lo hi = (omega zarith, omega arith)
    sizes (negsuc n) lo hi = (omega arith, omega zarith)

pub sum-limits : (s : List ℤ) (w j : ℕ) → first_outside s ≡ None → (neg_ℤ (pos (10000 * w)) ≤ℤ window_sum s w j) × (window_sum s w j ≤ℤ pos (10000 * w))
unfolding window_sum
sum-limits s w j e =
    let f = stretch s j in
    let a = Σℕ-le w 10000 (λ k. up (f k)) (λ k b. (value-limits (f k) (value-in s e (j + k))).0) in
    let b = Σℕ-le w 10000 (λ k. dn (f k)) (λ k b. (value-limits (f k) (value-in s e (j + k))).1) in
    (rep-le (rep_neg (rep_pos (10000 * w))) (rep-Σ-self w f) (omega arith), rep-le (rep-Σ-self w f) (rep_pos _) (omega arith))

end-in : (z : ℤ) → lowest_end ≤ℤ z → z ≤ℤ pos 4000000 → end_in z ≡ true
unfolding within
end-in z a b = of-both (le-le_z a) (le-le_z b)

-- the row that holds a window's sum has good ends
pub ends-good : (s : List ℤ) (w d j : ℕ) → first_outside s ≡ None → w ≤ 256 → 0 < d → d ≤ 1000000
    → GoodEnd d (low_of d (row_number d (window_sum s w j))) × GoodEnd d (up_of d (row_number d (window_sum s w j)))
ends-good s w d j e small one most =
    let z = window_sum s w j in
    let k = row_number d z in
    let l = sum-limits s w j e in
    let a : low_of d k ≤ℤ z = row_below d z one in
    let b : z <ℤ up_of d k = row-above d z one in
    let c = up_is d k in
    let n = z-neg (pos (10000 * w)) in (
      record { divides = multiple-of d k; limited = end-in _ (omega zarith) (omega zarith) },
      record { divides = multiple-of d (k +ℤ pos 1); limited = end-in _ (omega zarith) (omega zarith) },
    )

pub sum-of-part : (s : List ℤ) (m w j : ℕ) → j + w ≤ m → window_sum (take m s) w j ≡ window_sum s w j
unfolding window_sum
sum-of-part s m w j h = Σℤ-same w _ _ (λ k b. let l : j + k < m = omega arith in get_or-take m s (j + k) (pos 0) l)
