-- Candidates: the offsets that the index does not rule out (01, Candidates).
use Rattle.std.specs.Prelude.{ℕ, ◌+◌, leb, ℤ, nat_abs, Bool, true, ◌&&◌, ◌||◌, List, [], ◌∷◌}
use Rattle.std.specs.Int.Signed.{le_z, lt_z}
use Rattle.meaning_numbers.specs.Place.{any}
use Rattle.meaning_rows.specs.{declared.Row.Row, Index.Index, Index.stands}

-- a row is met by a range if low ≤ upper end and up > lower end
abbrev pub met : ℤ × ℤ → Row → Bool
met range r = le_z r.low range.1 && lt_z range.0 r.up

-- window j stands in some row that the range meets
abbrev pub stands_met : Index → ℤ × ℤ → ℕ → Bool
stands_met x range j = any (λ r. met range r && stands x r j) x.rows

-- the range admits window j: it stands in such a row, or it is at or past the index's window count (02, item 1)
abbrev pub admits : Index → ℤ × ℤ → ℕ → Bool
admits x range j = leb (nat_abs x.windows) j || stands_met x range j

-- each part's window, the first at offset j and each w further, is admitted by the part's range
unfoldable pub candidate : Index → List (ℤ × ℤ) → ℕ → Bool
candidate x [] j = true
candidate x (range ∷ rest) j = admits x range j && candidate x rest (j + nat_abs x.window)
