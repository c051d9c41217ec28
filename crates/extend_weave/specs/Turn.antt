-- A turn of the walk over old rows and row numbers, by the next old row and the low end of the next number's range.
use Rattle.std.specs.Prelude.{ℕ, ◌+◌, ◌*◌, ◌<◌, ◌≤◌, ltb, ℤ, pos, ◌+ℤ◌, ◌-ℤ◌, length, get_or, ◌≤ℤ◌, cond, List}
use Rattle.std.specs.Int.Signed.{le_z, lt_z}
use Rattle.meaning_rows.specs.declared.Row.{Row}

-- above every range
abbrev pub end_low : ℤ
end_low = pos 2000000000

-- past the last row
abbrev pub end_row : Row
end_row = record { low = end_low; up = end_low; first = 0; runs = 0 }

-- the low end of the range of number i, raised by `base`, or past the numbers the end above every range
unfoldable pub low_at : List ℕ → ℕ → ℕ → ℕ → ℕ → ℤ
low_at numbers count d base i = cond (ltb i count) (pos (get_or numbers i 0 * d) -ℤ pos (base * d)) end_low

-- a new row where its range lies below the next old row, else that row
unfoldable pub chosen_of : Row → ℤ → ℕ → Row
chosen_of r low d = cond (lt_z low r.low) (record { low = low; up = low +ℤ pos d; first = 0; runs = 0 }) r

-- the old rows passed, the numbers passed and the records made after a turn
unfoldable pub old_after : ℕ → Row → ℤ → ℕ
old_after a r low = cond (le_z r.up low) (a + 1) a

unfoldable pub number_after : ℕ → Row → ℤ → ℕ
number_after b r low = cond (lt_z low r.up) (b + 1) b

unfoldable pub made_after : ℕ → Row → ℤ → ℕ
made_after k r low = cond (le_z r.low low) (cond (lt_z low r.up) k (k + 1)) (k + 1)

-- the low end of a range of width d, or the end above every range
pub record Cell (low : ℤ) (d : ℕ) : Type 0 where
  pub least : (pos 0 -ℤ pos 1000000000) ≤ℤ low
  pub most : low ≤ℤ end_low
  pub width : d ≤ 1000000

-- the first `count` numbers have ranges
pub record Cells (numbers : List ℕ) (count d base : ℕ) : Type 0 where
  pub fits : count ≤ length numbers
  pub small : (i : ℕ) → i < count → get_or numbers i 0 * d ≤ 1000000000
  pub low-base : base * d ≤ 1000000000
