-- A search as C asks for it and is told its answer: a kind and numbers.
use Rattle.std.specs.Prelude.{ℕ, eqb, true, false, ◌≡◌, Ok, Err}
use Rattle.meaning_filter.specs.{declared.Kind.Kind, declared.Limits.Limits, declared.Pick.Pick, declared.Ask.Ask}
use Rattle.meaning_entries.specs.{declared.Found.Found, Answers.SearchAnswer, Search.SearchCall, Search.SearchBuffers, Search.search_answer, Search.search_after}
use Rattle.try_c_search.specs.{declared.Asked.Asked, declared.Answer.Answer}

-- 0: raw; any other number: normalised
unfoldable pub kind_of : Asked → Kind
kind_of a = elim (eqb a.kind 0) [ true ↦ Kind.Raw | false ↦ Kind.Normal ]

abbrev pub limits_of : Asked → Limits
limits_of a = record { band = a.band; threshold = a.threshold; scale = a.scale; shift = a.shift }

-- 0: all matches; any other number: the closest, so many
unfoldable pub pick_of : Asked → Pick
pick_of a = elim (eqb a.pick 0) [ true ↦ Pick.All | false ↦ Pick.Closest a.count ]

abbrev pub ask_of : Asked → Ask
ask_of a = record { kind = kind_of a; limits = limits_of a; pick = pick_of a }

abbrev pub numbers_of : ℕ → ℕ → ℕ → Answer
numbers_of kind first second = record { kind = kind; first = first; second = second }

-- 0: candidates and matches, all listed; 1: the same, the list is full; 2: the same, the closest few are listed; 3: the refusal's number and place
unfoldable pub told_found : SearchAnswer → Answer
told_found (Ok (Found.All candidates matches)) = numbers_of 0 candidates matches
told_found (Ok (Found.Full candidates matches)) = numbers_of 1 candidates matches
told_found (Ok (Found.Few candidates matches)) = numbers_of 2 candidates matches
told_found (Err r) = numbers_of 3 r.number r.place

-- the answer of a search is told, and its buffers are as it leaves them
pub record SearchTold (c : SearchCall) (before : SearchBuffers) (answer : Answer) (after : SearchBuffers) : Type 0 where
  pub answered : answer ≡ told_found (search_answer c before)
  pub left : after.left ≡ (search_after c before).left
  pub right : after.right ≡ (search_after c before).right
  pub scratch : after.scratch ≡ (search_after c before).scratch
  pub offsets : after.offsets ≡ (search_after c before).offsets
  pub distances : after.distances ≡ (search_after c before).distances
