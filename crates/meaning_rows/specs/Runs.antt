-- Runs of a set of offsets below n, the set given as a test: pairs (l, r), ascending, joined where they touch (01, Rows).
use Rattle.std.specs.Prelude.{ℕ, zero, suc, length, Bool, true, false, List, [], ◌∷◌, ◌++◌}

-- the test at the offset before n, where there is one
unfoldable pub before : (ℕ → Bool) → ℕ → Bool
before p zero = false
before p (suc n) = p n

-- the last run reaches on to n
unfoldable pub reach : List (ℕ × ℕ) → ℕ → List (ℕ × ℕ)
reach [] n = []
reach (x ∷ []) n = (x.0, n) ∷ []
reach (x ∷ y ∷ l) n = x ∷ reach (y ∷ l) n

-- offset n, if it is in the set, joins the last run where the offset before it is in the set, and else begins a run
unfoldable pub take_in : Bool → Bool → List (ℕ × ℕ) → ℕ → List (ℕ × ℕ)
take_in false b l n = l
take_in true false l n = l ++ ((n, n) ∷ [])
take_in true true l n = reach l n

-- the runs of the offsets below n that are in the set (laws: `runs-hold`, `runs-apart`)
unfoldable pub runs : (ℕ → Bool) → ℕ → List (ℕ × ℕ)
runs p zero = []
runs p (suc n) = take_in (p n) (before p n) (runs p n) n

-- how many runs
abbrev pub run_count : (ℕ → Bool) → ℕ → ℕ
run_count p n = length (runs p n)
