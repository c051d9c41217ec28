-- The first row whose upper end is above a number: what a search finds is that place (`found-above`); every row before it ends at or below the number (`above_before`), and that row ends above it (`above_at`).
use Rattle.meaning_numbers.proofs.Prelude.{◌≡◌, false, List, [], ◌∷◌, ℕ, zero, suc, ◌<◌, ◌≤◌, arith, dec_lt, ℤ, length, get_or, le_z, ◌≤ℤ◌, ◌<ℤ◌, zmach, le_z-true, by-test}
use Rattle.meaning_rows.specs.declared.Row.{Row}
use Rattle.rows_records.specs.Records.{zero_row}
use Rattle.rows_find.specs.Search.{Found}
use Rattle.candidate_met.specs.Met.{first_above}

-- the row ends above z
gt : (y z : ℤ) → le_z y z ≡ false → z <ℤ y
gt y z f = omega zmach

pub above-le : (l : List Row) (z : ℤ) → first_above l z ≤ length l
unfolding first_above
above-le [] z = omega arith
above-le (r ∷ l) z = by-test (le_z r.up z) (λ t. rw t (omega (arith, above-le l z))) (λ f. rw f (omega arith))

pub above_before : (l : List Row) (z : ℤ) (k : ℕ) → k < first_above l z → (get_or l k zero_row).up ≤ℤ z
unfolding first_above
above_before [] z k h = absurd (omega arith)
above_before (r ∷ l) z zero h = by-test _ (λ t. le_z-true t) (λ f. let e : 0 < 0 = rw f at h in absurd (omega arith))
above_before (r ∷ l) z (suc k) h =
    by-test (le_z r.up z) (λ t. let e : suc k < suc (first_above l z) = rw t at h in above_before l z k (omega arith)) (λ f. let e : suc k < 0 = rw f at h in absurd (omega arith))

pub above_at : (l : List Row) (z : ℤ) → first_above l z < length l → z <ℤ (get_or l (first_above l z) zero_row).up
unfolding first_above
above_at [] z h = absurd (omega arith)
above_at (r ∷ l) z h =
    by-test (le_z r.up z) (λ t. rw t (above_at l z (let e : suc (first_above l z) < suc (length l) = rw t at h in omega arith))) (λ f. rw f (gt r.up z f))

-- a place that a search finds
pub found-above : (l : List Row) (z : ℤ) (k : ℕ) → Found l (length l) z k → k ≡ first_above l z
found-above l z k f = elim (dec_lt k (first_above l z)) [
  | yes h ↦ let a = above_before l z k h in let b = f.at (omega (arith, above-le l z)) in absurd (omega zmach)
  | no n ↦ elim (dec_lt (first_above l z) k) [
    | yes h ↦ let a = f.before _ h in let b = above_at l z (omega arith) in absurd (omega zmach)
    | no m ↦ omega arith
  ]
]
