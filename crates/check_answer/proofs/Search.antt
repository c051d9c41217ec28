-- How a search that looks ends: it is within its limits (`limited`), and where the candidates stand as they should, what is found is what the search means (`search-done`). `search-ends` says it of a lent index, for the entry.
use Prim.Native.Nat.{ℕ, ◌<◌}
use lib.IntN.{ℤ}
use lib.ListN.{length}
use mathlib.Core.List.{List}
use Rattle.std.specs.Prelude.{None, Ok}
use mathlib.Core.Path.{◌≡◌, refl, sym, ap, ◌∙◌}
use native.Mathlib.Decide.{dec_le}
use native.Mathlib.Omega.{arith}
use Rattle.meaning_rows.specs.{declared.Row.Row, declared.Head.Head, Index.Index}
use Rattle.meaning_filter.specs.{declared.Ask.Ask, declared.Pick.Pick, Matches.candidate_runs, Closest.handed}
use Rattle.meaning_entries.specs.Search.{SearchCall, SearchBuffers, lent_search, question, list_room, search_matches, search_handed, search_candidates, search_plan, search_told, search_answer, search_after, looked_after}
use Rattle.meaning_entries.specs.{declared.Found.Found, Refusal.first_refusal, Demand2.SearchKept}
use Rattle.meaning_entries.proofs.{Demand2.search-kept, Looked.plan-all, Looked.plan-full, Looked.few-fit}
use Rattle.candidate_plan.specs.Allowed.{Allowed, the_plan, goes_on}
use Rattle.check_list.specs.{Members.members, Found.lent_runs, Found.found}
use Rattle.check_list.proofs.{Found.found_among, Candidates.runs-first, Candidates.list-after}
use Rattle.check_answer.specs.Answer.{wanted, Limited, answer_of, Answers}
use Rattle.check_answer.proofs.AnswerLaws.{answer-all, answer-full}

pub limited : {s : List ℤ} {h : Head} {x : Index} {ask : Ask} {q : List ℤ} {candidates scratch : ℕ} → Allowed s h x ask q candidates scratch → Limited ask.kind s q ask.limits
limited a = record { long = a.long; some = a.some; few = a.few; values = a.values; query = a.query; scale = a.scale-high; not-flat = a.not-flat }

module _ (c : SearchCall) (b : SearchBuffers) (free : first_refusal (search_plan c b) ≡ None) where
  abbrev M : ℕ
  M = length (search_matches c)

  -- by what is handed out
  answer-by : {p : Pick} → c.ask.pick ≡ p → answer_of c.ask.pick (search_candidates c) M (list_room b) ≡ answer_of p (search_candidates c) M (list_room b)
  answer-by e = ap (λ q. answer_of q (search_candidates c) M (list_room b)) e

  told-by : {p : Pick} → c.ask.pick ≡ p → search_told c.ask.pick (search_candidates c) M ≡ search_told p (search_candidates c) M
  told-by e = ap (λ q. search_told q (search_candidates c) M) e

  -- the answer, and the buffers of a search that looked
  record Ends : Type 0 where
    answer : Ok (answer_of c.ask.pick (search_candidates c) M (list_room b)) ≡ search_answer c b
    after : search_after c b ≡ looked_after c b

  ends_by : (p : Pick) → c.ask.pick ≡ p → Ends
  unfolding answer_of search_told handed
  ends_by (Pick.Closest k) e =
      let p = plan-all c b free (few-fit c b free e) in
      record { answer = ap (λ f. Ok f) (answer-by e ∙ sym (told-by e)) ∙ sym p.0; after = p.1 }
  ends_by Pick.All e =
      let all : length (search_handed c) ≡ M = ap (λ q. length (handed q (search_matches c))) e in
      elim (dec_le M (list_room b)) [
        | yes h ↦
            let p = plan-all c b free (omega (arith, all)) in
            record { answer = ap (λ f. Ok f) (answer-by e ∙ sym (answer-all (search_candidates c) M (list_room b) h) ∙ sym (told-by e)) ∙ sym p.0; after = p.1 }
        | no f ↦
            let h : list_room b < M = omega arith in
            let p = plan-full c b free (omega (arith, all)) in
            record { answer = ap (λ f. Ok f) (answer-by e ∙ sym (answer-full (search_candidates c) M (list_room b) h)) ∙ sym p.0; after = p.1 }
      ]

  ends : Ends
  ends = ends_by _ refl

  pub search-done : {r : Found} {left right scratch offsets distances : List ℕ} → left ≡ (looked_after c b).left → right ≡ (looked_after c b).right → scratch ≡ (looked_after c b).scratch
      → Answers c.ask.pick (search_matches c) (search_candidates c) r b.offsets b.distances offsets distances
      → SearchKept c b (Ok r) (record { left = left; right = right; scratch = scratch; offsets = offsets; distances = distances })
  search-done {r} {left} {right} {scratch} {offsets} {distances} e f g a =
      let t = list-after c b a.list in
      let o = t.1 in
      let d = t.2 in
      let same : record { left = left; right = right; scratch = scratch; offsets = offsets; distances = distances } ≡ looked_after c b
      = λ i. record { left = e i; right = f i; scratch = g i; offsets = o i; distances = d i } in
      search-kept c b (Ok r) (record { left = left; right = right; scratch = scratch; offsets = offsets; distances = distances }) (ap (λ f. Ok f) a.answered ∙ ends.answer) (same ∙ sym ends.after)

-- ---- over a lent index

module _ (s : List ℤ) (h : Head) (rows : List Row) (left right : List ℕ) (ask : Ask) (q : List ℤ) (b : SearchBuffers) where
  abbrev call : SearchCall
  call = lent_search s h rows left right ask q

  abbrev runs : List (ℕ × ℕ)
  runs = candidate_runs call.index (question call)

  -- the question is that of the code
  asked_is : question call ≡ wanted ask s q
  unfolding question
  asked_is = refl

  -- the candidates stand in their buffer, k runs
  module _ {lefts rights : List ℕ} {k : ℕ} (e : lefts ≡ (looked_after call b).left) (f : rights ≡ (looked_after call b).right) (g : k ≡ length runs) where
    same_runs : lent_runs lefts rights k ≡ runs
    unfolding looked_after
    same_runs = rw (e, f, g) (runs-first runs b.left b.right)

    meant : found (wanted ask s q) (members (lent_runs lefts rights k)) ≡ search_matches call
    meant = rw (same_runs, ← asked_is) (found_among call.index (question call))

    -- and what is found of them is what the search means
    pub search-ends : {r : Found} {scratch offsets distances : List ℕ} {candidates : ℕ} → the_plan s h rows left right ask q b ≡ Ok tt → scratch ≡ (looked_after call b).scratch → candidates ≡ search_candidates call
        → Answers ask.pick (found (wanted ask s q) (members (lent_runs lefts rights k))) candidates r b.offsets b.distances offsets distances
        → SearchKept call b (Ok r) (record { left = lefts; right = rights; scratch = scratch; offsets = offsets; distances = distances })
    search-ends z i j a = search-done call b (goes_on s h rows left right ask q b z) e f i (rw (meant, j) at a)
