-- The audit of a well-formed index against a series with as many windows (01, Rows).
use Rattle.std.specs.Prelude.{ℕ, suc, ◌+◌, ◌-◌, ℤ, nat_abs, Bool, not, cond, List, [], ◌∷◌, ◌++◌}
use Rattle.std.specs.declared.option.Option.{Option}
use Rattle.std.specs.Prelude.{None, Some}
use Rattle.meaning_numbers.specs.{Sum.count, Place.any, Place.numbers_from}
use Rattle.meaning_curves.specs.Curve.{window_sum}
use Rattle.meaning_rows.specs.{declared.Row.Row, Range.inside, Index.Index, Index.Entry, Index.runs_of, Index.stands}

-- the offsets of runs, upward
unfoldable pub offsets : List Entry → List ℕ
offsets [] = []
offsets (e ∷ l) = numbers_from (nat_abs e.0) (nat_abs e.1 + 1 - nat_abs e.0) ++ offsets l

-- an offset is filed wrongly in a row whose range does not hold its sum
abbrev pub misfiled : (ℕ → ℤ) → Row → ℕ → Bool
misfiled sum r j = not (inside r.low r.up (sum j))

-- the first of some offsets of row k that is filed wrongly, or else what comes after
unfoldable pub wrong_in : (ℕ → ℤ) → ℕ → Row → List ℕ → Option (ℕ × ℕ) → Option (ℕ × ℕ)
wrong_in sum k r [] after = after
wrong_in sum k r (j ∷ l) after = cond (misfiled sum r j) (Some (k, j)) (wrong_in sum k r l after)

-- the first row and offset filed wrongly, rows upward, offsets upward; rows are counted on from k
unfoldable pub wrong_from : Index → (ℕ → ℤ) → ℕ → List Row → Option (ℕ × ℕ)
wrong_from x sum k [] = None
wrong_from x sum k (r ∷ l) = wrong_in sum k r (offsets (runs_of x r)) (wrong_from x sum (suc k) l)

-- the sum of each window of the series, at the index's window length
abbrev pub sums : Index → List ℤ → ℕ → ℤ
sums x s = window_sum s (nat_abs x.window)

-- 01, Rows: the first row and offset filed wrongly
unfoldable pub first_wrong : Index → List ℤ → Option (ℕ × ℕ)
first_wrong x s = wrong_from x (sums x s) 0 x.rows

-- window j stands in no row
abbrev pub nowhere : Index → ℕ → Bool
nowhere x j = not (any (λ r. stands x r j) x.rows)

-- how many windows stand nowhere
unfoldable pub missing : Index → ℕ
missing x = count (nowhere x) (nat_abs x.windows)
