-- What a part does to the scratch count: each place that is hit and stands at the part's number is raised by one, and no other.
use Rattle.std.specs.Prelude.{ℕ, ◌+◌, leb, ltb, eqb, length, get_or, Bool, cond, ◌&&◌, List, ◌≡◌}
use Rattle.meaning_numbers.specs.Place.{any}
use Rattle.meaning_rows.specs.Index.{Entry, in_run}

-- the count of an offset, hit or not by the part
unfoldable pub bump : Bool → ℕ → ℕ → ℕ
bump hit part n = cond (hit && eqb n part) (part + 1) n

-- j lies from `from` up to and not with `to`
abbrev pub between : ℕ → ℕ → ℕ → Bool
between from to j = leb from j && ltb j to

-- j is an offset, and its window, `shift` further on, stands in one of the runs
abbrev pub reached : ℕ → ℕ → List Entry → ℕ → Bool
reached offsets shift runs j = ltb j offsets && any (in_run (j + shift)) runs

-- each count is that of its place, hit or not
pub record Raised (part : ℕ) (hit : ℕ → Bool) (old new : List ℕ) : Type 0 where
  pub long : length new ≡ length old
  pub at : (j : ℕ) → get_or new j 0 ≡ bump (hit j) part (get_or old j 0)
