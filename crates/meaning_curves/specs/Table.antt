-- The table that computes the warped distance: at (i, j) the least total of the paths to that pair, or none where no path leads (laws: `attained`, `least-total`).
use Rattle.std.specs.Prelude.{ℕ, zero, suc, ◌+◌, ◌-◌, min, leb, ℤ, Bool, true, false, ◌&&◌}
use Rattle.std.specs.declared.option.Option.{Option}
use Rattle.std.specs.Prelude.{None, Some}
use Rattle.meaning_curves.specs.Straight.{cost}

-- |i - j| is at most b, as a test
abbrev pub near : ℕ → ℕ → ℕ → Bool
near b i j = leb i (j + b) && leb j (i + b)

-- what is there, if the test passes
unfoldable pub when : Bool → Option ℕ → Option ℕ
when true o = o
when false o = None

-- c more, where there is something
unfoldable pub plus : Option ℕ → ℕ → Option ℕ
plus None c = None
plus (Some t) c = Some (t + c)

-- the lesser of two that may be missing
unfoldable pub least : Option ℕ → Option ℕ → Option ℕ
least None o = o
least (Some x) None = Some x
least (Some x) (Some y) = Some (min x y)

-- what stands at (i, j), where o is the least total before it
unfoldable pub step : (s q : ℕ → ℤ) → ℕ → ℕ → ℕ → Option ℕ → Option ℕ
step s q b i j o = when (near b i j) (plus o (cost (s i) (q j)))

-- row 0: the only pair before (0, j + 1) is (0, j)
unfoldable pub first_row : (s q : ℕ → ℤ) → ℕ → ℕ → Option ℕ
first_row s q b zero = Some (cost (s 0) (q 0))
first_row s q b (suc j) = step s q b 0 (suc j) (first_row s q b j)

-- row i + 1 from row i: before (i + 1, j + 1) stand (i, j), (i, j + 1) and (i + 1, j)
unfoldable pub next_row : (s q : ℕ → ℤ) → ℕ → ℕ → (ℕ → Option ℕ) → ℕ → Option ℕ
next_row s q b i before zero = step s q b (suc i) 0 (before 0)
next_row s q b i before (suc j) = step s q b (suc i) (suc j) (least (before j) (least (before (suc j)) (next_row s q b i before j)))

-- row i of the table, by place
unfoldable pub table : (s q : ℕ → ℤ) → ℕ → ℕ → ℕ → Option ℕ
table s q b zero = first_row s q b
table s q b (suc i) = next_row s q b i (table s q b i)

-- what is there, as a number
unfoldable pub value_of : Option ℕ → ℕ
value_of None = 0
value_of (Some t) = t

-- 01, Distances: the warped distance of m values within the band b; there is always a path to the last pair (law: `warped-is`)
unfoldable pub warped : (s q : ℕ → ℤ) → ℕ → ℕ → ℕ
warped s q b m = value_of (table s q b (m - 1) (m - 1))
