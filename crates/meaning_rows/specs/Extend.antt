-- Extending a well-formed index, audited or not, over a series with at least as many windows (01, Rows). Old ranges are kept; a new window goes to the row whose range holds
-- its sum, or to a new row of width d; nothing is merged. Windows below the old count are not looked at.
use Rattle.std.specs.Prelude.{ℕ, zero, suc, ◌+◌, ◌-◌, leb, ℤ, pos, nat_abs, length, Bool, cond, ◌&&◌, List, [], ◌∷◌, map}
use Rattle.std.specs.Int.Signed.{lt_z}
use Rattle.meaning_numbers.specs.Place.{any}
use Rattle.meaning_curves.specs.Curve.{window_sum, window_count}
use Rattle.meaning_rows.specs.{declared.Row.Row, Range.row_number, Range.inside, Index.Index, Index.RangeRow, Index.laid_out, Index.stands, Build.SetRow, Build.insert, Build.row_at, Build.with_runs}

-- an old row with its old offsets, and the windows from `old` on whose sums its range holds
unfoldable pub grown : Index → (ℕ → ℤ) → ℕ → Row → SetRow
grown x sum old r = record {
  low = r.low;
  up = r.up;
  has = λ j. cond (leb old j) (inside r.low r.up (sum j)) (stands x r j);
}

-- some old range holds the sum
abbrev pub known : Index → ℤ → Bool
known x z = any (λ r. inside r.low r.up z) x.rows

-- the row numbers of new windows, `more` of them from `old` on, that no old range holds
unfoldable pub new_numbers : Index → (ℕ → ℤ) → ℕ → ℕ → ℕ → List ℤ
new_numbers x sum d old zero = []
new_numbers x sum d old (suc more) =
    cond (known x (sum (old + more))) (new_numbers x sum d old more) (insert (row_number d (sum (old + more))) (new_numbers x sum d old more))

-- a new row, with the windows from `old` on whose sums it holds
unfoldable pub added : (ℕ → ℤ) → ℕ → ℕ → ℤ → SetRow
added sum d old k = let r = row_at sum d k in record { low = r.low; up = r.up; has = λ j. leb old j && r.has j }

-- a row put among others, by the low ends of their ranges
unfoldable pub insert_row : SetRow → List SetRow → List SetRow
insert_row r [] = r ∷ []
insert_row r (x ∷ l) = cond (lt_z r.low x.low) (r ∷ x ∷ l) (x ∷ insert_row r l)

-- each of some rows put among others
unfoldable pub insert_rows : List SetRow → List SetRow → List SetRow
insert_rows [] l = l
insert_rows (r ∷ rest) l = insert_row r (insert_rows rest l)

-- the rows of the index, extended to n windows
unfoldable pub extended_rows : Index → (ℕ → ℤ) → ℕ → List RangeRow
extended_rows x sum n =
    let old = nat_abs x.windows in
    let d = nat_abs x.width in
    map (with_runs n) (insert_rows (map (added sum d old) (new_numbers x sum d old (n - old))) (map (grown x sum old) x.rows))

-- the index, extended over the whole of a longer series
unfoldable pub extended : Index → List ℤ → Index
extended x s =
    let w = nat_abs x.window in
    let n = window_count (length s) w in
    laid_out x.window x.width (pos n) (extended_rows x (window_sum s w) n)
