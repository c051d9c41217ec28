-- Row numbers and ranges of sums.
use Rattle.std.specs.Prelude.{ℕ, ℤ, pos, ◌+ℤ◌, ◌*ℤ◌, Bool, ◌&&◌}
use Rattle.std.specs.Int.Signed.{le_z, lt_z}
use Rattle.meaning_numbers.specs.Quotient.{floorℤ}

-- 01, Rows: the number k of the row that holds a sum, rounded down for negative sums too
abbrev pub row_number : ℕ → ℤ → ℤ
row_number d z = floorℤ z d

-- 01, Rows: row k holds sums from k × d ..
abbrev pub low_of : ℕ → ℤ → ℤ
low_of d k = k *ℤ pos d

-- .. up to but not including (k + 1) × d
abbrev pub up_of : ℕ → ℤ → ℤ
up_of d k = (k +ℤ pos 1) *ℤ pos d

-- z lies in the range [low, up)
unfoldable pub inside : ℤ → ℤ → ℤ → Bool
inside low up z = le_z low z && lt_z z up
