-- The row of a sum, told by the quotient of a natural number: of the sum, or of -1 less the sum where that is negative.
use Rattle.meaning_numbers.specs.Quotient.{floorℤ}
use Rattle.meaning_numbers.proofs.Prelude.{◌≡◌, refl, ℕ, ◌/◌, ℤ, pos, negsuc}
use Rattle.meaning_rows.specs.Range.{row_number}

pub row_up : {z : ℤ} {n : ℕ} (d : ℕ) → z ≡ pos n → row_number d z ≡ pos (n / d)
unfolding floorℤ
row_up d e = rw e refl

pub row-down : {z : ℤ} {n : ℕ} (d : ℕ) → z ≡ negsuc n → row_number d z ≡ negsuc (n / d)
unfolding floorℤ
row-down d e = rw e refl
