-- What a search that kept its promise and answered that all are listed has listed: the matches that it means, all of them (`listed-is`). The list's buffer begins with them, as many as the answer says.
use Rattle.std.specs.Prelude.{Ok, Err}
use Rattle.meaning_numbers.proofs.Prelude.{◌≡◌, refl, ap, ◌∙◌, Bool, true, false, Option, None, Some, ℕ, ◌≤◌, arith, eqb, ltb, nltb→le, length, take, take_all}
use Rattle.meaning_filter.specs.{declared.Pick.Pick, Closest.handed}
use Rattle.meaning_entries.specs.Search.{SearchCall, SearchBuffers, list_room, search_matches, search_handed, search_candidates, search_plan, search_table, looked, search_refused, search_told, search_answer, looked_after, search_after}
use Rattle.meaning_entries.specs.{declared.Found.Found, Answers.SearchAnswer, Refusal.first_refusal, Buffers.filled, Demand2.SearchKept, Demand3.pairs}
use Rattle.meaning_entries.proofs.{Refused.is-passed, Refused.open_lines, Refused.passed-line, Refused.not-if, Pairs.pairs-back}

all-refused : {a b : ℕ} {B : Type 0} (c : SearchCall) (r : ℕ × ℕ) (t : Bool) → eqb r.0 24 ≡ t → Ok (Found.All a b) ≡ search_refused c r → B
unfolding search_refused
all-refused c r true e h = let z : ◌≡◌ {A = ℕ} 0 1 = cc in absurd (omega arith)
all-refused c r false e h = let z : ◌≡◌ {A = ℕ} 0 1 = cc in absurd (omega arith)

-- an answer that all are listed: no line of the table applies, all were asked for, and the counts are those meant
pub record Answered (c : SearchCall) (b : SearchBuffers) (candidates count : ℕ) : Type 0 where
  pub passed : first_refusal (search_table c b) ≡ None
  pub whole : c.ask.pick ≡ Pick.All
  pub looked : candidates ≡ search_candidates c
  pub counted : count ≡ length (search_matches c)

answered-by : (c : SearchCall) (b : SearchBuffers) {a n : ℕ} (o : Option (ℕ × ℕ)) (p : Pick) → first_refusal (search_table c b) ≡ o → c.ask.pick ≡ p → Ok (Found.All a n) ≡ search_answer c b → Answered c b a n
unfolding search_answer search_told
answered-by c b {a} {n} None Pick.All e p h =
    let g : ◌≡◌ {A = SearchAnswer} (Ok (Found.All a n)) (Ok (Found.All (search_candidates c) (length (search_matches c)))) = (rw (e, search_answer) at h) ∙ ap (λ q. Ok (search_told q (search_candidates c) (length (search_matches c)))) p in
    record { passed = e; whole = p; looked = cc; counted = cc }
answered-by c b {a} {n} None (Pick.Closest k) e p h =
    let g : ◌≡◌ {A = SearchAnswer} (Ok (Found.All a n)) (Ok (Found.Few (search_candidates c) (length (search_matches c)))) = (rw (e, search_answer) at h) ∙ ap (λ q. Ok (search_told q (search_candidates c) (length (search_matches c)))) p in
    let z : ◌≡◌ {A = ℕ} 0 1 = cc in
    absurd (omega arith)
answered-by c b (Some r) p e q h = all-refused c r _ refl (rw (e, search_answer) at h)

pub answered : (c : SearchCall) (b : SearchBuffers) {a n : ℕ} → Ok (Found.All a n) ≡ search_answer c b → Answered c b a n
answered c b h = answered-by c b _ _ refl refl h

-- a search that is not refused has looked
pub looked-after : (c : SearchCall) (b : SearchBuffers) → first_refusal (search_table c b) ≡ None → search_after c b ≡ looked_after c b
unfolding search_after looked
looked-after c b e = rw (e, search_after)

-- the list holds all that is handed out
pub room : (c : SearchCall) (b : SearchBuffers) → first_refusal (search_table c b) ≡ None → length (search_handed c) ≤ list_room b
unfolding open_lines search_plan search_table
room c b e = nltb→le _ _ (not-if 24 (ltb (list_room b) _) (passed-line (is-passed _ e) 24))

-- the first entries of the list's buffer are the matches
pub listed-is : (c : SearchCall) (before after : SearchBuffers) {a n : ℕ} → SearchKept c before (Ok (Found.All a n)) after → take n (pairs after.offsets after.distances) ≡ search_matches c
unfolding looked_after filled handed
listed-is c before after {a} {n} k =
    let h = answered c before k.answered in
    let all : search_handed c ≡ search_matches c = ap (λ p. handed p (search_matches c)) h.whole in
    rw (k.offsets, k.distances, looked-after c before h.passed, h.counted, take_all _ (search_handed c) (room c before h.passed), all) (pairs-back _ _ _)
