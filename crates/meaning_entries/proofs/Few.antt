-- What a search for the closest few that kept its promise has listed (02, item 2): the closest few of the matches that it means (`few-listed`), and through an index that passes the beginning of all matches in that order (`few-all`).
-- Candidates and counts are those of the full search (`as-all`, `few-counts`).
use Rattle.std.specs.Prelude.{Ok, Err}
use Rattle.meaning_numbers.proofs.Prelude.{◌≡◌, refl, sym, ap, ◌∙◌, subst, ℕ, min, length, take_all, None}
use Rattle.meaning_filter.specs.{declared.Pick.Pick, Matches.all_matches, Matches.candidate_at, Matches.candidate_runs, Matches.candidate_count, Matches.match_list, Closest.closest, Closest.IsClosest, Closest.handed}
use Rattle.meaning_filter.proofs.Closest.{closest-many, closest-matches}
use Rattle.meaning_entries.specs.Search.{SearchCall, SearchBuffers, handing, question, search_matches, search_handed, search_candidates, search_refusal, search_told, search_answer, looked_after}
use Rattle.meaning_entries.specs.{declared.Found.Found, Answers.SearchAnswer, Buffers.filled, Audit.PassesCovered, Demand2.SearchKept, Demand3.list_in}
use Rattle.meaning_entries.proofs.{Looked.plan-passed, Looked.matches-all, Listed.room, Listed.looked-after, Pairs.pairs-back}

-- what is handed out changes neither candidates nor matches
pub as-all : (p : Pick) (c : SearchCall) → (candidate_runs c.index (question (handing p c)) ≡ candidate_runs c.index (question c)) × (search_candidates (handing p c) ≡ search_candidates c) × (search_matches (handing p c) ≡ search_matches c)
unfolding question candidate_at candidate_runs candidate_count match_list
as-all p c = (refl, refl, refl)

module _ (c : SearchCall) (before after : SearchBuffers) {answer : SearchAnswer} {k : ℕ} (kept : SearchKept c before answer after) (picks : c.ask.pick ≡ Pick.Closest k) (free : search_refusal c before ≡ None) where
  -- both counts are true, and of all matches
  pub few-counts : answer ≡ Ok (Found.Few (search_candidates c) (length (search_matches c)))
  unfolding search_answer search_told
  few-counts = kept.answered ∙ rw (free, search_answer) (ap (λ p. Ok (search_told p (search_candidates c) (length (search_matches c)))) picks)

  handed-is : search_handed c ≡ closest k (search_matches c)
  unfolding handed
  handed-is = ap (λ p. handed p (search_matches c)) picks

  pub few-listed : list_in (min k (length (search_matches c))) after ≡ closest k (search_matches c)
  unfolding looked_after filled
  few-listed =
      rw (kept.offsets, kept.distances, looked-after c before free, take_all _ (search_handed c) (room c before free), handed-is, ← (closest-many k (search_matches c)))
      (pairs-back (closest k (search_matches c)) _ _)

  -- through an index that passes the audit against the part of the series that it covers
  module _ (p : PassesCovered c.index c.series) where
    all : search_matches c ≡ all_matches (question c)
    all = matches-all c before (plan-passed c before free) p

    pub few-all : list_in (min k (length (all_matches (question c)))) after ≡ closest k (all_matches (question c))
    few-all = rw (← all) few-listed

    pub few-is : IsClosest k (all_matches (question c)) (list_in (min k (length (all_matches (question c)))) after)
    few-is = subst (IsClosest k (all_matches (question c))) (sym few-all) (closest-matches k (question c))

    pub few-answered : answer ≡ Ok (Found.Few (search_candidates c) (length (all_matches (question c))))
    few-answered = few-counts ∙ ap (λ l. Ok (Found.Few (search_candidates c) (length l))) all
