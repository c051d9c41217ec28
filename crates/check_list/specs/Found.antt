-- The matches among some offsets, as entries of the list (`found`): those of the candidates' runs are the list that a search means. What checking asks for (`Prepared`), and the sums that slide (`SumsFor`).
use Rattle.std.specs.Prelude.{ℕ, ◌+◌, ◌<◌, ◌≤◌, ℤ, length, take, List, [], ◌∷◌, map, None, Some, ◌≡◌}
use Rattle.std.specs.declared.option.Option.{Option}
use Rattle.meaning_numbers.specs.Place.{keep}
use Rattle.meaning_curves.proofs.Values.{AllIn}
use Rattle.meaning_rows.proofs.Runs.{Apart}
use Rattle.meaning_filter.specs.{declared.Kind.Kind, declared.Limits.Limits, declared.Pick.Pick, Matches.Question, Matches.matches_at, Matches.listed}
use Rattle.meaning_entries.specs.Demand3.{pairs}
use Rattle.values.specs.Sums.{AreSums}
use Rattle.distance_query.specs.Ready.{Ready}

-- what is looked for
abbrev pub asked : Pick → Kind → List ℤ → List ℤ → Limits → Question
asked pick kind s q l = record { series = s; query = q; ask = record { kind = kind; limits = l; pick = pick } }

-- what was made of the query once, and sizes
pub record Prepared (kind : Kind) (s q : List ℤ) (l : Limits) (curve low high : List ℤ) (p A : ℕ) : Type 0 where
  pub long : length s ≤ 1048576
  pub some : 0 < length q
  pub few : length q ≤ 1024
  pub values : AllIn s
  pub query : AllIn q
  pub scale : l.scale ≤ 100
  pub ready : Ready kind q l.band curve low high p A

-- the sums of the stretch at a place, where there is one, which only a normalised query asks for
abbrev pub SumsFor : Kind → List ℤ → ℕ → ℕ → ℕ → ℕ → Type 0
SumsFor kind s from m p w = kind ≡ Kind.Normal → from + m ≤ length s → AreSums s from m p w

-- the matches among some offsets, with their distances
unfoldable pub found : Question → List ℕ → List (ℕ × ℕ)
found z l = map (listed z) (keep (matches_at z) l)

-- the runs that stand as the first entries of two slices
abbrev pub lent_runs : List ℕ → List ℕ → ℕ → List (ℕ × ℕ)
lent_runs left right k = take k (pairs left right)

-- runs of offsets below n, ascending and joined, that stand as the first entries of two slices
pub record RunsLent (n : ℕ) (left right : List ℕ) (runs : ℕ) : Type 0 where
  pub in_left : runs ≤ length left
  pub in_right : runs ≤ length right
  pub apart : Apart n 0 (lent_runs left right runs)

-- what a match test answers at offset j, as entries of the list
unfoldable pub entries_of : ℕ → Option ℕ → List (ℕ × ℕ)
entries_of j (Some d) = (j, d) ∷ []
entries_of j None = []
