-- A clamped end stands to every row end as it did (`clamp-le`, `clamp-lt`).
use Rattle.meaning_numbers.specs.Order.{within}
use Rattle.meaning_numbers.proofs.Prelude.{◌≡◌, true, false, ℤ, pos, negsuc, le_z, lt_z, ◌≤ℤ◌, ◌<ℤ◌, zmach, le_z-true, lt-lt_z, le-lt_z, by-test, both}
use Rattle.meaning_curves.specs.Limits.{end_in}
use Rattle.meaning_rows.proofs.Range.{le-le_z}
use Rattle.candidate_met.specs.Met.{clamp_of}

-- z lies in the limits of row ends
pub record RowEnd (z : ℤ) : Type 0 where
  pub low : negsuc 3999999 ≤ℤ z
  pub high : z ≤ℤ pos 4000000

gt-le_z : {a b : ℤ} → b <ℤ a → le_z a b ≡ false
gt-le_z {a} {b} h = by-test _ (λ t. absurd (omega zmach)) (λ f. f)

both_below : {a b z : ℤ} → a <ℤ z → b <ℤ z → lt_z a z ≡ lt_z b z
both_below h k = rw (lt-lt_z h, lt-lt_z k)

none_below : {a b z : ℤ} → z ≤ℤ a → z ≤ℤ b → lt_z a z ≡ lt_z b z
none_below h k = rw (le-lt_z h, le-lt_z k)

both-above : {a b z : ℤ} → z ≤ℤ a → z ≤ℤ b → le_z z a ≡ le_z z b
both-above h k = rw (le-le_z h, le-le_z k)

none_above : {a b z : ℤ} → a <ℤ z → b <ℤ z → le_z z a ≡ le_z z b
none_above h k = rw (gt-le_z h, gt-le_z k)

module _ {z : ℤ} (e : RowEnd z) (y : ℤ) where
  pub clamp-lt : lt_z (clamp_of y) z ≡ lt_z y z
  unfolding clamp_of
  clamp-lt = by-test (lt_z y (negsuc 4000000)) (λ t. rw t (both_below {a = negsuc 4000000} {b = y} (omega (zmach, e.low)) (omega (zmach, e.low))))
      (λ f. rw f (by-test (lt_z (pos 4000001) y) (λ t. rw t (none_below {a = pos 4000001} {b = y} (omega (zmach, e.high)) (omega zmach))) (λ g. rw g)))

  pub clamp-le : le_z z (clamp_of y) ≡ le_z z y
  unfolding clamp_of
  clamp-le = by-test (lt_z y (negsuc 4000000)) (λ t. rw t (none_above {z = z} (omega (zmach, e.low)) (omega (zmach, e.low))))
      (λ f. rw f (by-test (lt_z (pos 4000001) y) (λ t. rw t (both-above {z = z} (omega (zmach, e.high)) (omega zmach))) (λ g. rw g)))

pub row-end : (z : ℤ) → end_in z ≡ true → RowEnd z
unfolding within
row-end z t = let h = both _ _ t in record { low = le_z-true h.0; high = le_z-true h.1 }
