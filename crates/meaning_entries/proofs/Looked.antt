-- The table of a search is what is known before it looks (`search_plan`), and whether the list holds all matches, which is known only at its end. Where the first part refuses, that is the answer and no buffer is altered (`plan-refused`);
-- else the buffers are those of a search that looked, and the answer is by how many are handed out (`plan-all`, `plan-full`); of the closest few the list holds all (`few-fit`), so that 24 is never given (`closest-never-24`). Through an index that passes, what the search finds is all matches (`matches-all`).
use Rattle.std.specs.Prelude.{Ok, Err}
use Rattle.meaning_numbers.proofs.Prelude.{◌≡◌, refl, sym, ◌∙◌, ap, subst, clash, false, List, [], ◌∷◌, Option, None, Some, none-some, ℕ, ◌<◌, ◌≤◌, arith, T, eqb, length, lt-ltb, le-ltb}
use Rattle.meaning_filter.specs.{declared.Pick.Pick, Matches.all_matches, Closest.handed, Closest.fewest}
use Rattle.meaning_filter.proofs.{Matches.all_found, Closest.closest-many}
use Rattle.meaning_entries.specs.Search.{SearchCall, SearchBuffers, question, list_room, search_matches, search_handed, search_candidates, search_plan, search_table, search_refusal, looked, search_refused, search_told, search_answer, looked_after, search_after}
use Rattle.meaning_entries.specs.{declared.Found.Found, Answers.refusal, Refusal.Condition, Refusal.first_refusal, Refusal.list_short, Audit.PassesCovered}
use Rattle.meaning_entries.proofs.Refused.{open_lines, First, here, more, end, passed_is, first-is, is-passed, is-first, lacks, first-left, first-right, first-lacks, passed-line, passed-both}
use Rattle.meaning_entries.proofs.{Lines.query-line, Lines.scale-line, Lines.room-line, Passes.passes-reached}

-- 24
abbrev last_line : SearchCall → SearchBuffers → Condition
last_line c b = list_short (list_room b) (length (search_handed c))

not-24 : (c : SearchCall) (b : SearchBuffers) → T (lacks 24 (search_plan c b))
unfolding open_lines search_plan lacks
not-24 c b = tt

-- the last line, by how many are handed out
list-holds : (room found : ℕ) → found ≤ room → first_refusal (list_short room found ∷ []) ≡ None
unfolding list_short
list-holds room found h = passed_is (more (rw (le-ltb room found h)) end)

list-short : (room found : ℕ) → room < found → first_refusal (list_short room found ∷ []) ≡ Some (24, 0)
unfolding list_short
list-short room found h = first-is (here (rw (lt-ltb room found h)))

-- the closest few are at most as many as are asked for
few-handed : (k : ℕ) (l : List (ℕ × ℕ)) → length (handed (Pick.Closest k) l) ≤ k
unfolding handed
few-handed k l = omega (arith, closest-many k l)

module _ (c : SearchCall) (b : SearchBuffers) where
  -- refused before it looks
  module _ {n p : ℕ} (e : first_refusal (search_plan c b) ≡ Some (n, p)) where
    f : First (search_plan c b) n p
    f = is-first _ n p e

    pub plan-refusal : search_refusal c b ≡ Some (n, p)
    unfolding search_table
    plan-refusal = first-is (first-left _ f)

    pub plan-other : eqb n 24 ≡ false
    plan-other = first-lacks 24 (not-24 c b) f

    pub plan-refused : (search_answer c b ≡ Err (refusal (n, p))) × (search_after c b ≡ b)
    unfolding search_answer search_refused search_after looked
    plan-refused = (rw (plan-refusal, search_answer) (rw (plan-other, search_refused)), rw (plan-refusal, search_after) (rw plan-other))

  -- not refused before it looks
  module _ (e : first_refusal (search_plan c b) ≡ None) where
    last-decides : search_refusal c b ≡ first_refusal (last_line c b ∷ [])
    unfolding search_table
    last-decides = first-right _ (is-passed _ e)

    pub plan-all : length (search_handed c) ≤ list_room b → (search_answer c b ≡ Ok (search_told c.ask.pick (search_candidates c) (length (search_matches c)))) × (search_after c b ≡ looked_after c b)
    unfolding search_answer search_after looked
    plan-all h = let f = last-decides ∙ list-holds _ _ h in (rw (f, search_answer), rw (f, search_after))

    pub plan-full : list_room b < length (search_handed c) → (search_answer c b ≡ Ok (Found.Full (search_candidates c) (length (search_matches c)))) × (search_after c b ≡ looked_after c b)
    unfolding search_answer search_after search_refused looked
    plan-full h = let f = last-decides ∙ list-short _ _ h in (rw (f, search_answer, search_refused), rw (f, search_after))

    -- the list holds as many as are asked for
    pub room-few : fewest c.ask.pick ≤ list_room b
    unfolding open_lines search_plan
    room-few = room-line _ _ (passed-line (is-passed _ e) 23)

    pub few-fit : {k : ℕ} → c.ask.pick ≡ Pick.Closest k → length (search_handed c) ≤ list_room b
    unfolding fewest
    few-fit {k} p =
        let asked : fewest c.ask.pick ≡ k = ap fewest p in
        let few = subst (λ (q : Pick). length (handed q (search_matches c)) ≤ k) (sym p) (few-handed k (search_matches c)) in
        omega (arith, room-few)

    pub few-free : {k : ℕ} → c.ask.pick ≡ Pick.Closest k → search_refusal c b ≡ None
    few-free p = last-decides ∙ list-holds _ _ (few-fit p)

    pub matches-all : PassesCovered c.index c.series → search_matches c ≡ all_matches (question c)
    unfolding open_lines question search_plan
    matches-all p =
        let t = is-passed _ e in
        all_found _ _ (passes-reached _ _ p) (query-line _ _ (passed-line t 6)).0.least (omega (arith, (scale-line _ _ (passed-line t 10)).0.least))

  -- a search that is not refused is not refused before it looks
  pub plan-passed : search_refusal c b ≡ None → first_refusal (search_plan c b) ≡ None
  unfolding search_table
  plan-passed e = passed_is (passed-both (search_plan c b) _ (is-passed _ e)).0

  -- 02, item 2: 24 is not given
  pub closest-never-24 : {k : ℕ} → c.ask.pick ≡ Pick.Closest k → (place : ℕ) → search_refusal c b ≡ Some (24, place) → ⊥
  closest-never-24 p place r = by _ refl
    where
      by : (o : Option (ℕ × ℕ)) → first_refusal (search_plan c b) ≡ o → ⊥
      by None e = none-some _ (sym (sym r ∙ few-free e p))
      by (Some x) e =
          let same : x ≡ (24, place) = cc (sym (plan-refusal e) ∙ r) in
          clash refl (rw same at (plan-other e))
