-- The entry search: one series, one index, one query of either kind, straight or warped; it hands out all matches, or the closest few (02, item 2).
use Rattle.std.specs.Prelude.{ℕ, eqb, ℤ, pos, nat_abs, length, take, Bool, true, false, List, [], ◌∷◌, ◌++◌, map}
use Rattle.std.specs.declared.option.Option.{Option}
use Rattle.std.specs.Prelude.{None, Some, Ok, Err}
use Rattle.meaning_curves.specs.{Limits.most_values, Curve.window_count}
use Rattle.meaning_rows.specs.{declared.Row.Row, declared.Head.Head, Index.Index, Index.lent}
use Rattle.meaning_filter.specs.{declared.Kind.Kind, declared.Pick.Pick, declared.Ask.Ask, Matches.Question, Matches.candidate_runs, Matches.candidate_count, Matches.match_list, Closest.handed, Closest.fewest}
use Rattle.meaning_entries.specs.Refusal.{Condition, first_refusal, value_outside, query_length_outside, query_below_window, band_outside, threshold_outside, scale_or_shift_outside, count_outside, flat_query, ill_formed, more_windows, buffer_short, list_short, series_lines, room_lines}
use Rattle.meaning_entries.specs.{declared.Found.Found, Answers.SearchAnswer, Answers.refusal, Buffers.filled, Buffers.pair_room}

-- what is asked beside the query. Band b, threshold E, scale limit a, shift limit h are whole numbers, as a text may have any; no text says what is handed out
pub record Asking : Type 0 where
  pub kind : Kind
  pub band : ℤ
  pub threshold : ℤ
  pub scale : ℤ
  pub shift : ℤ
  pub pick : Pick

-- what the code is asked
abbrev pub lent_ask : Ask → Asking
lent_ask a = record {
  kind = a.kind;
  band = pos a.limits.band;
  threshold = pos a.limits.threshold;
  scale = pos a.limits.scale;
  shift = pos a.limits.shift;
  pick = a.pick;
}

-- and back, of what is within its limits
abbrev pub plain_ask : Asking → Ask
plain_ask a = record {
  kind = a.kind;
  limits = record { band = nat_abs a.band; threshold = nat_abs a.threshold; scale = nat_abs a.scale; shift = nat_abs a.shift };
  pick = a.pick;
}

-- the same, with something else handed out
abbrev pub picking : Pick → Ask → Ask
picking p a = record { kind = a.kind; limits = a.limits; pick = p }

pub record SearchCall : Type 0 where
  pub series : List ℤ
  pub index : Index
  pub query : List ℤ
  pub ask : Asking

-- the same search, with something else handed out
abbrev pub handing : Pick → SearchCall → SearchCall
handing p c = record {
  series = c.series;
  index = c.index;
  query = c.query;
  ask = record { kind = c.ask.kind; band = c.ask.band; threshold = c.ask.threshold; scale = c.ask.scale; shift = c.ask.shift; pick = p };
}

-- the call over a lent index
abbrev pub lent_search : List ℤ → Head → List Row → List ℕ → List ℕ → Ask → List ℤ → SearchCall
lent_search series head rows left right ask query = record { series = series; index = lent head rows left right; query = query; ask = lent_ask ask }

-- candidate buffer, scratch, and the list
pub record SearchBuffers : Type 0 where
  pub left : List ℕ
  pub right : List ℕ
  pub scratch : List ℕ
  pub offsets : List ℕ
  pub distances : List ℕ

abbrev pub search_buffers : List ℕ → List ℕ → List ℕ → List ℕ → List ℕ → SearchBuffers
search_buffers left right scratch offsets distances = record { left = left; right = right; scratch = scratch; offsets = offsets; distances = distances }

-- what a call within its limits asks
unfoldable pub question : SearchCall → Question
question c = record { series = c.series; query = c.query; ask = plain_ask c.ask }

-- the matches that the search finds
abbrev pub search_matches : SearchCall → List (ℕ × ℕ)
search_matches c = match_list c.index (question c)

-- those that it hands out
abbrev pub search_handed : SearchCall → List (ℕ × ℕ)
search_handed c = handed c.ask.pick (search_matches c)

-- how many entries the list holds
abbrev pub list_room : SearchBuffers → ℕ
list_room b = pair_room b.offsets b.distances

-- ---- the refusals

-- 1 and 2: the series, of at most so many values, then the query
abbrev pub value_lines : ℕ → List ℤ → List ℤ → List Condition
value_lines most s q = series_lines most s ++ (value_outside q ∷ [])

-- 6 to 10: m, for a series of n values and windows of w, and the limits
abbrev pub limit_lines : ℕ → ℕ → ℤ → Asking → List Condition
limit_lines n m w a =
    query_length_outside m n
    ∷ query_below_window m w
    ∷ band_outside m a.band
    ∷ threshold_outside a.threshold
    ∷ scale_or_shift_outside a.scale a.shift
    ∷ []

-- 22 and 23: the index's windows for a series of n values, which may be fewer (02, item 1); room in the list for the closest few, and room for candidates and scratch, which goes by the series
abbrev pub window_lines : ℕ → Index → Pick → ℕ → ℕ → ℕ → List Condition
window_lines n x pick list candidates scratch =
    let windows = window_count n (nat_abs x.window) in
    more_windows x n ∷ buffer_short list (fewest pick) ∷ room_lines candidates windows scratch windows

-- what refuses before the search looks, in order
unfoldable pub search_plan : SearchCall → SearchBuffers → List Condition
search_plan c b =
    let n = length c.series in
    value_lines most_values c.series c.query
    ++ (limit_lines n (length c.query) c.index.window c.ask
    ++ (count_outside c.ask.pick
    ∷ flat_query c.ask.kind c.query
    ∷ ill_formed c.index
    ∷ window_lines n c.index c.ask.pick (list_room b) (pair_room b.left b.right) (length b.scratch)))

-- the refusals, in order: whether the list holds all that is handed out is known only at the end (law: `closest-never-24`)
unfoldable pub search_table : SearchCall → SearchBuffers → List Condition
search_table c b = search_plan c b ++ (list_short (list_room b) (length (search_handed c)) ∷ [])

abbrev pub search_refusal : SearchCall → SearchBuffers → Option (ℕ × ℕ)
search_refusal c b = first_refusal (search_table c b)

-- a search that looked: not refused, or refused by 24 alone
unfoldable pub looked : Option (ℕ × ℕ) → Bool
looked None = true
looked (Some r) = eqb r.0 24

-- how many candidates there are
abbrev pub search_candidates : SearchCall → ℕ
search_candidates c = candidate_count c.index (question c)

-- refused: number and place; but 24 gives both true counts
unfoldable pub search_refused : SearchCall → ℕ × ℕ → SearchAnswer
search_refused c r = elim (eqb r.0 24) [ true ↦ Ok (Found.Full (search_candidates c) (length (search_matches c))) | false ↦ Err (refusal r) ]

-- not refused: both counts, of all matches whatever is handed out
unfoldable pub search_told : Pick → ℕ → ℕ → Found
search_told Pick.All candidates matches = Found.All candidates matches
search_told (Pick.Closest k) candidates matches = Found.Few candidates matches

unfoldable pub search_answer : SearchCall → SearchBuffers → SearchAnswer
search_answer c b = elim (search_refusal c b) [ Some r ↦ search_refused c r | None ↦ Ok (search_told c.ask.pick (search_candidates c) (length (search_matches c))) ]

-- how many candidates and matches; a refusal gives counts 0, but 24 both true counts
unfoldable pub search_counts : SearchCall → SearchBuffers → ℕ × ℕ
search_counts c b = elim (looked (search_refusal c b)) [ true ↦ (search_candidates c, length (search_matches c)) | false ↦ (0, 0) ]

-- candidates stand first in their buffer as joined runs, scratch is all 0, the list has what is handed out, or the first of it if it cannot hold all
unfoldable pub looked_after : SearchCall → SearchBuffers → SearchBuffers
looked_after c b =
    let runs = candidate_runs c.index (question c) in
    let list = take (list_room b) (search_handed c) in
    record {
      left = filled 0 (map (λ x. x.0) runs) b.left;
      right = filled 0 (map (λ x. x.1) runs) b.right;
      scratch = filled 0 [] b.scratch;
      offsets = filled 0 (map (λ x. x.0) list) b.offsets;
      distances = filled 0 (map (λ x. x.1) list) b.distances;
    }

-- the buffers afterwards
unfoldable pub search_after : SearchCall → SearchBuffers → SearchBuffers
search_after c b = elim (looked (search_refusal c b)) [ true ↦ looked_after c b | false ↦ b ]
