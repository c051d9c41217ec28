-- Two audits and two searches as one call: what is answered by what each audit and each search means (`demand-by`), case by case too, and that this paper's number, place, values and counts of the answer are those that are meant. By cases on the audits and on the refusals.
use Rattle.std.specs.Prelude.{Ok, Err}
use Rattle.meaning_numbers.proofs.Prelude.{◌≡◌, refl, sym, ap, ◌∙◌, Bool, true, false, cond, Option, None, Some, none-some, ℕ, length}
use Rattle.meaning_rows.specs.Index.{Index}
use Rattle.meaning_filter.specs.declared.Pick.{Pick}
use Rattle.meaning_entries.specs.Both.{yes, told_second, told_found, told, audit_of, demand_answer, in_turn, demand_refusal, demand_wrong, demand_missing, demand_counts, demand_found}
use Rattle.meaning_entries.specs.Search.{SearchCall, SearchBuffers, search_matches, search_candidates, search_refusal, search_told, search_answer, search_after}
use Rattle.meaning_entries.specs.{declared.Audited.Audited, declared.Found.Found, declared.Both.Both, Answers.AuditAnswer, Answers.SearchAnswer, Audit.AuditCall, Audit.audit_answer, Audit.PassesCovered, Demand2.AuditKept, Demand2.SearchKept, Demand3.through, Answers.found_refusal, Answers.both_refusal, Answers.both_wrong, Answers.both_missing, Answers.both_counts, Answers.both_found}
use Rattle.meaning_entries.proofs.Demand2.{audit-kept, search-kept}

-- an audit that does not say yes
no-yes : (a : AuditAnswer) → (a ≡ Ok Audited.Yes → ⊥) → yes a ≡ false
unfolding yes
no-yes (Ok Audited.Yes) fails = absurd (fails refl)
no-yes (Ok (Audited.Wrong row offset)) fails = refl
no-yes (Ok (Audited.Missing count)) fails = refl
no-yes (Err r) fails = refl

is_some : (o : Option (ℕ × ℕ)) → (o ≡ None → ⊥) → (r : ℕ × ℕ) × (o ≡ Some r)
is_some (Some r) fails = (r, refl)
is_some None fails = absurd (fails refl)

-- a search that is refused stands in the way
first-refused : (f g : SearchAnswer) (r : ℕ × ℕ) → found_refusal f ≡ Some r → told_found f g ≡ Both.FirstSearch f
unfolding told_found
first-refused (Ok (Found.All candidates matches)) g r e = absurd (none-some _ e)
first-refused (Ok (Found.Few candidates matches)) g r e = absurd (none-some _ e)
first-refused (Ok (Found.Full candidates matches)) g r e = refl
first-refused (Err x) g r e = refl

second-refused : (count : ℕ) (g : SearchAnswer) (r : ℕ × ℕ) → found_refusal g ≡ Some r → told_second count g ≡ Both.SecondSearch g
unfolding told_second
second-refused count (Ok (Found.All candidates matches)) r e = absurd (none-some _ e)
second-refused count (Ok (Found.Few candidates matches)) r e = absurd (none-some _ e)
second-refused count (Ok (Found.Full candidates matches)) r e = refl
second-refused count (Err x) r e = refl

-- one that is not, and hands out all matches, lists them
pub all_told : (c : SearchCall) (b : SearchBuffers) → c.ask.pick ≡ Pick.All → search_refusal c b ≡ None → search_answer c b ≡ Ok (Found.All (search_candidates c) (length (search_matches c)))
unfolding search_answer search_told
all_told c b p e = rw (e, search_answer) (ap (λ q. Ok (search_told q (search_candidates c) (length (search_matches c)))) p)

kept : (c : SearchCall) (b : SearchBuffers) → SearchKept c b (search_answer c b) (search_after c b)
kept c b = search-kept c b _ _ refl refl

audit : (c : AuditCall) → AuditKept c (audit_answer c)
audit c = audit-kept c _ refl

module _ (c : SearchCall) (x : Index) (b₁ b₂ : SearchBuffers) (picks : c.ask.pick ≡ Pick.All) where
  abbrev one : AuditAnswer
  one = audit_answer (audit_of c)

  abbrev two : AuditAnswer
  two = audit_answer (audit_of (through x c))

  abbrev first : SearchAnswer
  first = search_answer c b₁

  abbrev second : SearchAnswer
  second = search_answer (through x c) b₂

  abbrev listed : Both
  listed = Both.Listed (length (search_matches c)) (length (search_matches (through x c)))

  searches-by : {A : Type 0} (F : Both → A) (o p : Option (ℕ × ℕ)) → search_refusal c b₁ ≡ o → search_refusal (through x c) b₂ ≡ p
      → ◌≡◌ {A = A} (F (told_found first second)) (elim o [ Some r ↦ F (Both.FirstSearch first) | None ↦ elim p [ Some r ↦ F (Both.SecondSearch second) | None ↦ F listed ] ])
  unfolding told_found told_second
  searches-by F (Some r) p e h = ap F (first-refused first second r ((kept c b₁).refused ∙ e))
  searches-by F None (Some r) e h = ap F (ap (λ (f : SearchAnswer). told_found f second) (all_told c b₁ picks e) ∙ second-refused _ second r ((kept _ b₂).refused ∙ h))
  searches-by F None None e h = ap F (rw (all_told c b₁ picks e, all_told _ b₂ picks h) refl)

  told-by : {A : Type 0} (F : Both → A) (s t : Bool) → yes one ≡ s → yes two ≡ t → F (told one two first second) ≡ cond s (cond t (F (told_found first second)) (F (Both.SecondAudit two))) (F (Both.FirstAudit one))
  unfolding told
  told-by F false t e h = ap F (rw e refl)
  told-by F true false e h = ap F (rw (e, h) refl)
  told-by F true true e h = ap F (rw (e, h) refl)

  -- what is said of the answer is said of the first that stands in the way
  pub demand-by : {A : Type 0} (F : Both → A) → F (demand_answer c x b₁ b₂) ≡ in_turn c x b₁ b₂ (F (Both.FirstAudit one)) (F (Both.SecondAudit two)) (F (Both.FirstSearch first)) (F (Both.SecondSearch second)) (F listed)
  unfolding demand_answer in_turn
  demand-by {A} F = told-by F _ _ refl refl ∙ rw (searches-by F _ _ refl refl)

  -- ---- case by case

  said : demand_answer c x b₁ b₂ ≡ in_turn c x b₁ b₂ (Both.FirstAudit one) (Both.SecondAudit two) (Both.FirstSearch first) (Both.SecondSearch second) listed
  said = demand-by (λ (b : Both). b)

  pub first-audit : (PassesCovered c.index c.series → ⊥) → demand_answer c x b₁ b₂ ≡ Both.FirstAudit one
  unfolding in_turn
  first-audit fails = said ∙ rw (no-yes one fails, in_turn) refl

  pub second-audit : PassesCovered c.index c.series → (PassesCovered x c.series → ⊥) → demand_answer c x b₁ b₂ ≡ Both.SecondAudit two
  unfolding yes in_turn
  second-audit p fails = said ∙ rw (p, no-yes two fails, in_turn) refl

  pub first-search : PassesCovered c.index c.series → PassesCovered x c.series → (search_refusal c b₁ ≡ None → ⊥) → demand_answer c x b₁ b₂ ≡ Both.FirstSearch first
  unfolding yes in_turn
  first-search p q fails = let r = is_some _ fails in said ∙ rw (p, q, r.1, in_turn) refl

  pub second-search : PassesCovered c.index c.series → PassesCovered x c.series → search_refusal c b₁ ≡ None → (search_refusal (through x c) b₂ ≡ None → ⊥) → demand_answer c x b₁ b₂ ≡ Both.SecondSearch second
  unfolding yes in_turn
  second-search p q e fails = let r = is_some _ fails in said ∙ rw (p, q, e, r.1, in_turn) refl

  pub both-listed : PassesCovered c.index c.series → PassesCovered x c.series → search_refusal c b₁ ≡ None → search_refusal (through x c) b₂ ≡ None → demand_answer c x b₁ b₂ ≡ listed
  unfolding yes in_turn
  both-listed p q e f = said ∙ rw (p, q, e, f, in_turn) refl

  -- ---- in this paper's numbers

  pub demand-refusal : both_refusal (demand_answer c x b₁ b₂) ≡ demand_refusal c x b₁ b₂
  demand-refusal = demand-by both_refusal ∙ rw ((audit _).refused, (audit _).refused, (kept c b₁).refused, (kept _ b₂).refused) refl

  pub demand-wrong : both_wrong (demand_answer c x b₁ b₂) ≡ demand_wrong c x b₁ b₂
  demand-wrong = demand-by both_wrong ∙ rw ((audit _).wrong, (audit _).wrong) refl

  pub demand-missing : both_missing (demand_answer c x b₁ b₂) ≡ demand_missing c x b₁ b₂
  demand-missing = demand-by both_missing ∙ rw ((audit _).missing, (audit _).missing) refl

  pub demand-counts : both_counts (demand_answer c x b₁ b₂) ≡ demand_counts c x b₁ b₂
  demand-counts = demand-by both_counts

  pub demand-found : both_found (demand_answer c x b₁ b₂) ≡ demand_found c x b₁ b₂
  demand-found = demand-by both_found ∙ rw ((kept c b₁).counted, (kept _ b₂).counted) refl
