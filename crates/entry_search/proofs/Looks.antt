-- The search after its candidates are sought: checking has what it asks for (`finish-asked`), and both promises are the promise of the search (`both-kept`), where it is refused (`stops`) and where not.
use Rattle.std.specs.Prelude.{Ok, Err, IfOk}
use Rattle.std.specs.declared.result.Result.{Result}
use Rattle.meaning_numbers.proofs.Prelude.{◌≡◌, sym, ap, ◌∙◌, None, List, ℕ, ℤ}
use Rattle.meaning_rows.specs.{declared.Row.Row, declared.Head.Head}
use Rattle.meaning_filter.specs.{declared.Ask.Ask, Matches.offset_count, Matches.candidate_at, Matches.candidate_runs}
use Rattle.meaning_entries.specs.Search.{SearchCall, SearchBuffers, search_buffers, lent_search, question, search_plan, looked_after}
use Rattle.meaning_entries.specs.{declared.Found.Found, declared.Refusal.Refusal, Refusal.first_refusal, Demand2.SearchKept}
use Rattle.meaning_entries.proofs.{Demand2.search-kept, Looked.plan-refused, Looked.room-few}
use Rattle.refusals.specs.Refusal.{verdict_of}
use Rattle.candidate_plan.specs.Allowed.{the_plan, plan-is, allowed}
use Rattle.check_list.specs.{Members.members, Found.lent_runs, Found.found}
use Rattle.check_answer.specs.Answer.{wanted, Answers}
use Rattle.check_answer.proofs.Search.{limited, search-ends}
use Rattle.candidate_find.specs.{declared.Sought.Sought, Sought.SoughtKept}
use Rattle.entry_search.specs.Finished.{FinishReady, Finished}
use Rattle.entry_search.proofs.SoughtLaws.{runs-lent}

module _ (s : List ℤ) (h : Head) (rows : List Row) (left right : List ℕ) (ask : Ask) (q : List ℤ) (b : SearchBuffers) where
  abbrev here : SearchCall
  here = lent_search s h rows left right ask q

  -- refused
  pub stops : {r : Refusal} {first last scratch : List ℕ} → SoughtKept here b (Err r) first last scratch → SearchKept here b (Err r) (search_buffers first last scratch b.offsets b.distances)
  stops {r} {first} {last} {scratch} k =
      let p = plan-refused here b (sym k.judged) in
      let same : search_buffers first last scratch b.offsets b.distances ≡ b = rw (k.left.0, k.left.1, k.left.2) in
      search-kept here b (Err r) (search_buffers first last scratch b.offsets b.distances) (sym p.0) (same ∙ sym p.1)

  -- not refused
  module _ {t : Sought} {first last scratch : List ℕ} (k : SoughtKept here b (Ok t) first last scratch) where
    goes_on : first_refusal (search_plan here b) ≡ None
    goes_on = sym k.judged

    free : the_plan s h rows left right ask q b ≡ Ok tt
    unfolding verdict_of
    free = plan-is s h rows left right ask q b ∙ ap verdict_of goes_on

    ready : FinishReady ask s q t first last b.offsets b.distances
    unfolding candidate_runs question
    ready =
        let g = k.left in
        record {
          limited = limited (allowed s h rows left right ask q b free);
          lent = rw (g.handed-left, g.handed-right, g.runs) (runs-lent (candidate_at here.index (question here)) (offset_count (question here)) b.left b.right);
          fits = room-few here b goes_on;
        }

    looks : {answer : Found} {offsets distances : List ℕ} → Answers ask.pick (found (wanted ask s q) (members (lent_runs first last t.runs))) t.candidates answer b.offsets b.distances offsets distances
        → SearchKept here b (Ok answer) (search_buffers first last scratch offsets distances)
    unfolding looked_after
    looks a =
        let g = k.left in
        search-ends s h rows left right ask q b g.handed-left g.handed-right g.runs free g.cleared g.candidates a

  -- either
  module _ {first last scratch : List ℕ} where
    pub finish-asked : (t : Result Sought Refusal) → SoughtKept here b t first last scratch → IfOk t (λ m. FinishReady ask s q m first last b.offsets b.distances)
    finish-asked (Ok m) k = ready k
    finish-asked (Err r) k = tt

    pub both-kept : (t : Result Sought Refusal) {answer : Result Found Refusal} {offsets distances : List ℕ} → SoughtKept here b t first last scratch → Finished ask s q t first last b.offsets b.distances answer offsets distances
        → SearchKept here b answer (search_buffers first last scratch offsets distances)
    both-kept (Ok m) k f = rw f.1 (looks k f.2)
    both-kept (Err r) k f = rw (f.0, f.1, f.2) (stops k)
