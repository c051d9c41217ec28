-- What a search that kept its promise and answered 24 has listed: the first of the matches that it means, as many as the list holds (`full-listed`), and through an index that passes the first of all matches (`full-all`).
use Rattle.std.specs.Prelude.{Ok, Err}
use Rattle.meaning_numbers.proofs.Prelude.{◌≡◌, refl, sym, ap, subst, ◌∙◌, Option, None, Some, ℕ, ◌<◌, arith, dec_le, length, take, length-take-le}
use Rattle.meaning_filter.specs.{declared.Pick.Pick, Matches.all_matches, Closest.handed}
use Rattle.meaning_entries.specs.Search.{SearchCall, SearchBuffers, question, list_room, search_matches, search_handed, search_candidates, search_plan, search_told, search_answer, looked_after}
use Rattle.meaning_entries.specs.{declared.Found.Found, declared.Refusal.Refusal, Answers.SearchAnswer, Refusal.first_refusal, Buffers.filled, Audit.PassesCovered, Demand2.SearchKept, Demand3.pairs}
use Rattle.meaning_entries.proofs.{Looked.plan-refused, Looked.plan-all, Looked.plan-full, Looked.few-fit, Looked.matches-all, Pairs.pairs-back}

-- 24: nothing refuses before the search looks, all were asked for, the counts are those meant, and there are more matches than the list holds
pub record FullAnswered (c : SearchCall) (b : SearchBuffers) (candidates count : ℕ) : Type 0 where
  pub unrefused : first_refusal (search_plan c b) ≡ None
  pub whole : c.ask.pick ≡ Pick.All
  pub looked : candidates ≡ search_candidates c
  pub counted : count ≡ length (search_matches c)
  pub short : list_room b < length (search_matches c)

other-answer : {a n : ℕ} {r : Refusal} {B : Type 0} → ◌≡◌ {A = SearchAnswer} (Ok (Found.Full a n)) (Err r) → B
other-answer e = let z : ◌≡◌ {A = ℕ} 0 1 = cc in absurd (omega arith)

not-told : {a n : ℕ} {B : Type 0} (p : Pick) (candidates matches : ℕ) → ◌≡◌ {A = SearchAnswer} (Ok (Found.Full a n)) (Ok (search_told p candidates matches)) → B
unfolding search_told
not-told Pick.All candidates matches e = let z : ◌≡◌ {A = ℕ} 0 1 = cc in absurd (omega arith)
not-told (Pick.Closest k) candidates matches e = let z : ◌≡◌ {A = ℕ} 0 1 = cc in absurd (omega arith)

module _ (c : SearchCall) (b : SearchBuffers) {a n : ℕ} (h : Ok (Found.Full a n) ≡ search_answer c b) where
  answered-by : (o : Option (ℕ × ℕ)) (p : Pick) → first_refusal (search_plan c b) ≡ o → c.ask.pick ≡ p → FullAnswered c b a n
  unfolding handed
  answered-by (Some r) p e q = other-answer (h ∙ (plan-refused c b e).0)
  answered-by None (Pick.Closest k) e q = not-told c.ask.pick _ _ (h ∙ (plan-all c b e (few-fit c b e q)).0)
  answered-by None Pick.All e q = elim (dec_le (length (search_handed c)) (list_room b)) [
    | yes l ↦ not-told c.ask.pick _ _ (h ∙ (plan-all c b e l).0)
    | no f ↦
        let s : list_room b < length (search_handed c) = omega arith in
        let g : ◌≡◌ {A = SearchAnswer} (Ok (Found.Full a n)) (Ok (Found.Full (search_candidates c) (length (search_matches c)))) = h ∙ (plan-full c b e s).0 in
        record { unrefused = e; whole = q; looked = cc; counted = cc; short = subst (λ (p : Pick). list_room b < length (handed p (search_matches c))) q s }
  ]

  pub full-answered : FullAnswered c b a n
  full-answered = answered-by _ _ refl refl

module _ (c : SearchCall) (before after : SearchBuffers) {a n : ℕ} (k : SearchKept c before (Ok (Found.Full a n)) after) where
  f : FullAnswered c before a n
  f = full-answered c before k.answered

  pub full-listed : take (list_room before) (pairs after.offsets after.distances) ≡ take (list_room before) (search_matches c)
  unfolding looked_after filled handed
  full-listed =
      let all : search_handed c ≡ search_matches c = ap (λ p. handed p (search_matches c)) f.whole in
      let short : list_room before < length (search_handed c) = rw (ap length all) f.short in
      let e = length-take-le (list_room before) (search_handed c) (omega (arith, short)) in
      rw (k.offsets, k.distances, (plan-full c before f.unrefused short).1) (ap (λ (r : ℕ). take r (pairs (looked_after c before).offsets (looked_after c before).distances)) (sym e) ∙ pairs-back (take (list_room before) _) _ _)
      ∙ ap (take (list_room before)) all

  -- through an index that passes the audit against the part of the series that it covers
  module _ (p : PassesCovered c.index c.series) where
    pub full-all : (take (list_room before) (pairs after.offsets after.distances) ≡ take (list_room before) (all_matches (question c))) × (n ≡ length (all_matches (question c)))
    full-all = let all = matches-all c before f.unrefused p in (full-listed ∙ ap (take (list_room before)) all, f.counted ∙ ap length all)
