-- The promise of demand 3 leaves one outcome, of searches that hand out all matches: one answer, and one content of every buffer.
use Rattle.std.specs.Prelude.{Ok, Err}
use Rattle.meaning_numbers.proofs.Prelude.{◌≡◌, refl, sym, ◌∙◌, ap, false≢true, Option, None, Some, none-some, ℕ}
use Rattle.meaning_rows.specs.Index.{Index}
use Rattle.meaning_filter.specs.declared.Pick.{Pick}
use Rattle.meaning_entries.specs.{declared.Audited.Audited, declared.Both.Both, Answers.AuditAnswer, Answers.both_counts, Audit.PassesCovered, Search.SearchCall, Search.SearchBuffers, Search.search_refusal, Search.search_after, Demand3.through, Both.yes, Both.demand_answer, Both.Demand3Kept}
use Rattle.meaning_entries.proofs.BothTold.{first-audit, second-audit, first-search, second-search, both-listed, demand-counts}

-- whether an audit says yes, and whether a search is refused, is known
by-audit : {P : Type 0} (a : AuditAnswer) → (a ≡ Ok Audited.Yes → P) → ((a ≡ Ok Audited.Yes → ⊥) → P) → P
unfolding yes
by-audit (Ok Audited.Yes) y n = y refl
by-audit (Ok (Audited.Wrong row offset)) y n = n (λ e. false≢true (ap yes e))
by-audit (Ok (Audited.Missing count)) y n = n (λ e. false≢true (ap yes e))
by-audit (Err r) y n = n (λ e. false≢true (ap yes e))

by-refusal : {P : Type 0} (o : Option (ℕ × ℕ)) → (o ≡ None → P) → ((o ≡ None → ⊥) → P) → P
by-refusal None y n = y refl
by-refusal (Some r) y n = n (λ e. none-some r (sym e))

module _ (c : SearchCall) (x : Index) (b₁ b₂ : SearchBuffers) (answer : Both) (after₁ after₂ : SearchBuffers) (picks : c.ask.pick ≡ Pick.All) (k : Demand3Kept c x b₁ b₂ answer after₁ after₂) where
  listed-only : PassesCovered c.index c.series → PassesCovered x c.series → search_refusal c b₁ ≡ None → search_refusal (through x c) b₂ ≡ None → answer ≡ demand_answer c x b₁ b₂
  listed-only p q e f =
      let l = k.listed p q e f in
      let m = both-listed c x b₁ b₂ picks p q e f in
      let counts = sym (ap both_counts l.answered) ∙ k.counted ∙ sym (demand-counts c x b₁ b₂ picks) ∙ ap both_counts m in
      l.answered ∙ ap (λ (n : ℕ × ℕ). Both.Listed n.0 n.1) counts ∙ sym m

  answer-only : answer ≡ demand_answer c x b₁ b₂
  answer-only =
      by-audit _
      (λ p. by-audit _
      (λ q. by-refusal _
      (λ e. by-refusal _ (listed-only p q e) (λ n. k.second-search p q e n ∙ sym (second-search c x b₁ b₂ picks p q e n)))
      (λ n. k.first-search p q n ∙ sym (first-search c x b₁ b₂ picks p q n)))
      (λ n. k.second-audit p n ∙ sym (second-audit c x b₁ b₂ picks p n)))
      (λ n. k.first-audit n ∙ sym (first-audit c x b₁ b₂ picks n))

  pub demand3-only : (answer ≡ demand_answer c x b₁ b₂) × (after₁ ≡ search_after c b₁) × (after₂ ≡ search_after (through x c) b₂)
  demand3-only = (
    answer-only,
    λ i. record { left = k.first.left i; right = k.first.right i; scratch = k.first.scratch i; offsets = k.first.offsets i; distances = k.first.distances i },
    λ i. record { left = k.second.left i; right = k.second.right i; scratch = k.second.scratch i; offsets = k.second.offsets i; distances = k.second.distances i },
  )
