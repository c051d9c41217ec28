-- The list of matches, with offset and distance, and what a search through an index finds (01, Candidates).
use Rattle.std.specs.Prelude.{ℕ, suc, ◌+◌, ◌-◌, ◌<◌, ◌≤◌, T, ℤ, nat_abs, length, Bool, ◌≡◌}
use mathlib.Core.List.{List, [], ◌∷◌, map, Memᴰ as Mem}
use Rattle.meaning_numbers.specs.{Sum.count, Place.keep, Place.numbers_from}
use Rattle.meaning_curves.specs.{Curve.at, Curve.stretch, Match.distance, Match.normal_distance, Match.raw_match, Match.normal_match}
use Rattle.meaning_rows.specs.{Index.Index, Runs.runs}
use Rattle.meaning_filter.specs.{declared.Kind.Kind, declared.Kind.TheVariants.Raw, declared.Kind.TheVariants.Normal, declared.Limits.Limits, declared.Ask.Ask, Range.ranges, Candidates.candidate}

-- what is looked for in a series: a query, and what is asked beside it
pub record Question : Type 0 where
  pub series : List ℤ
  pub query : List ℤ
  pub ask : Ask

-- m
abbrev pub query_length : Question → ℕ
query_length z = length z.query

-- how many offsets there are: from 0 to n - m
abbrev pub offset_count : Question → ℕ
offset_count z = length z.series + 1 - query_length z

-- a stretch matches a query
unfoldable pub matches : Kind → (s q : ℕ → ℤ) → ℕ → Limits → Bool
matches Raw s q m l = raw_match s q m l.band l.threshold
matches Normal s q m l = normal_match s q m l.band l.threshold l.scale l.shift

-- its distance (law: `listed-within`, that of a match is at most E)
unfoldable pub distance_to : Kind → (s q : ℕ → ℤ) → ℕ → Limits → ℕ
distance_to Raw s q m l = distance s q l.band m
distance_to Normal s q m l = normal_distance s q l.band m

-- the stretch of offset j matches
abbrev pub matches_at : Question → ℕ → Bool
matches_at z j = matches z.ask.kind (stretch z.series j) (at z.query) (query_length z) z.ask.limits

-- an entry of the list: an offset and its distance
abbrev pub listed : Question → ℕ → ℕ × ℕ
listed z j = (j, distance_to z.ask.kind (stretch z.series j) (at z.query) (query_length z) z.ask.limits)

-- all matches, ascending, with no index
unfoldable pub all_matches : Question → List (ℕ × ℕ)
all_matches z = map (listed z) (keep (matches_at z) (numbers_from 0 (offset_count z)))

-- the offsets of a list are at least k, ascending, each once
pub data Upward : ℕ → List (ℕ × ℕ) → Type 0 where
  done : {k : ℕ} → Upward k []
  next : {k : ℕ} {e : ℕ × ℕ} {l : List (ℕ × ℕ)} → k ≤ e.0 → Upward (suc e.0) l → Upward k (e ∷ l)

-- a list is exactly all matches: ascending, each once; an entry is an offset whose stretch matches, with its distance; and every such offset stands in it (law: `exactly-only`, there is one such list)
pub record Exactly (z : Question) (l : List (ℕ × ℕ)) : Type 0 where
  pub ascending : Upward 0 l
  pub only : (e : ℕ × ℕ) → Mem e l → (e.0 < offset_count z) × T (matches_at z e.0) × (e ≡ listed z e.0)
  pub every : (j : ℕ) → j < offset_count z → T (matches_at z j) → Mem (listed z j) l

-- ---- through an index

-- offset j is a candidate
unfoldable pub candidate_at : Index → Question → ℕ → Bool
candidate_at x z = candidate x (ranges z.ask.kind (at z.query) (query_length z) z.ask.limits (nat_abs x.window))

-- the candidates as joined runs, and how many they are
unfoldable pub candidate_runs : Index → Question → List (ℕ × ℕ)
candidate_runs x z = runs (candidate_at x z) (offset_count z)

unfoldable pub candidate_count : Index → Question → ℕ
candidate_count x z = count (candidate_at x z) (offset_count z)

-- a search lists matches among candidates, with offset and distance
unfoldable pub match_list : Index → Question → List (ℕ × ℕ)
match_list x z = map (listed z) (keep (matches_at z) (keep (candidate_at x z) (numbers_from 0 (offset_count z))))
