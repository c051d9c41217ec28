-- `Demand3Kept` follows from what the two entries promise (`AuditKept`, `SearchKept`) and from demand 3 of the meanings, and from nothing else.
use Rattle.meaning_numbers.proofs.Prelude.{◌≡◌, refl, sym, subst, None, length}
use Rattle.meaning_rows.specs.Index.{Index}
use Rattle.meaning_filter.specs.declared.Pick.{Pick}
use Rattle.meaning_entries.specs.{Answers.AuditAnswer, Answers.SearchAnswer, declared.Both.Both, Audit.PassesCovered, Search.SearchCall, Search.SearchBuffers, Search.search_matches, Search.search_candidates, Search.search_refusal, Search.search_answer, Demand2.AuditKept, Demand2.SearchKept, Demand3.through, Both.told, Both.audit_of, Both.demand_answer, Both.BothListed, Both.Demand3Kept}
use Rattle.meaning_entries.proofs.Demand3.{demand3}
use Rattle.meaning_entries.proofs.BothTold.{all_told, first-audit, second-audit, first-search, second-search, both-listed, demand-refusal, demand-wrong, demand-missing, demand-counts, demand-found}

module _ (c : SearchCall) (x : Index) (before₁ before₂ after₁ after₂ : SearchBuffers) (picks : c.ask.pick ≡ Pick.All) where
  -- the answer that is meant keeps the promise
  module _ (search₁ : SearchKept c before₁ (search_answer c before₁) after₁) (search₂ : SearchKept (through x c) before₂ (search_answer (through x c) before₂) after₂) where
    listed : PassesCovered c.index c.series → PassesCovered x c.series → search_refusal c before₁ ≡ None → search_refusal (through x c) before₂ ≡ None → BothListed c (demand_answer c x before₁ before₂) after₁ after₂
    listed p q e f = record {
      count₁ = length (search_matches c);
      count₂ = length (search_matches (through x c));
      answered = both-listed c x before₁ before₂ picks p q e f;
      same = demand3 c x _ _ _ _
          (record { passes = p; before = before₁; after = after₁; candidates = search_candidates c; kept = rw (all_told c before₁ picks e) at search₁; listed = refl })
          (record { passes = q; before = before₂; after = after₂; candidates = search_candidates (through x c); kept = rw (all_told (through x c) before₂ picks f) at search₂; listed = refl });
    }

    meant-kept : Demand3Kept c x before₁ before₂ (demand_answer c x before₁ before₂) after₁ after₂
    meant-kept = record {
      listed = listed;
      first-audit = first-audit c x before₁ before₂ picks;
      second-audit = second-audit c x before₁ before₂ picks;
      first-search = first-search c x before₁ before₂ picks;
      second-search = second-search c x before₁ before₂ picks;
      refused = demand-refusal c x before₁ before₂ picks;
      wrong = demand-wrong c x before₁ before₂ picks;
      missing = demand-missing c x before₁ before₂ picks;
      counted = demand-counts c x before₁ before₂ picks;
      found = demand-found c x before₁ before₂ picks;
      first = search₁;
      second = search₂;
    }

  module _ (one two : AuditAnswer) (first second : SearchAnswer) (audit₁ : AuditKept (audit_of c) one) (audit₂ : AuditKept (audit_of (through x c)) two)
      (search₁ : SearchKept c before₁ first after₁) (search₂ : SearchKept (through x c) before₂ second after₂) where
    told-meant : told one two first second ≡ demand_answer c x before₁ before₂
    unfolding demand_answer
    told-meant = rw (audit₁.answered, audit₂.answered, search₁.answered, search₂.answered) refl

    pub demand3-kept : Demand3Kept c x before₁ before₂ (told one two first second) after₁ after₂
    demand3-kept =
        subst (λ (a : Both). Demand3Kept c x before₁ before₂ a after₁ after₂) (sym told-meant)
        (meant-kept (rw search₁.answered at search₁) (rw search₂.answered at search₂))
