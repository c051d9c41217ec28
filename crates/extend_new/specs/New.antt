-- The table of the row numbers of the windows from `old` on: lowered, it is the list of their row numbers.
use Rattle.std.specs.Prelude.{ℕ, ◌-◌, ltb, ℤ, get_or, set, drop, Bool, cond, List, []}
use Rattle.sums_slide.specs.{Levels.windows_of, Table.table}

unfoldable pub new_table : List ℤ → ℕ → ℕ → ℕ → ℕ → List ℕ
new_table s old w e d = cond (ltb old (windows_of s w)) (table (drop old s) w e d) []

-- one less, where a run is joined
unfoldable pub less_join : Bool → ℕ → List ℕ → List ℕ
less_join joins i counts = cond joins (set counts i (get_or counts i 0 - 1)) counts
