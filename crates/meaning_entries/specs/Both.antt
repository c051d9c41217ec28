-- Demand 3 as one call: two indexes, each audited against the part of the series that it covers, and the series searched for one query through both, each search with buffers of its own. `c` is the first search, `through x c` the same through the other index.
-- What is answered, in the order in which it is looked at: both audits, then both searches. An audit that does not say yes, or a search that is refused, by 24 too, stands in the way, and the first that does is told.
-- Demand 3 is about searches that give the whole list: `c` hands out all matches (02, item 2), so neither answers `Found.Few`.
use Rattle.std.specs.Prelude.{ℕ, length, Bool, true, false, cond, ◌≡◌}
use Rattle.std.specs.declared.option.Option.{Option}
use Rattle.std.specs.Prelude.{None, Some, Ok, Err}
use Rattle.meaning_curves.specs.Limits.{most_values}
use Rattle.meaning_rows.specs.Index.{Index, covered}
use Rattle.meaning_entries.specs.{declared.Audited.Audited, declared.Found.Found, declared.Both.Both, Answers.AuditAnswer, Answers.SearchAnswer, Refusal.first_refusal, Audit.AuditCall, Audit.audit_table, Audit.audit_answer, Audit.audit_wrong, Audit.audit_missing, Audit.PassesCovered, Search.SearchCall, Search.SearchBuffers, Search.search_matches, Search.search_refusal, Search.search_answer, Search.search_counts, Demand3.through, Demand3.list_in, Demand3.SameMatches, Answers.both_refusal, Answers.both_wrong, Answers.both_missing, Answers.both_counts, Answers.both_found, Demand2.SearchKept}

unfoldable pub yes : AuditAnswer → Bool
yes (Ok Audited.Yes) = true
yes (Ok (Audited.Wrong row offset)) = false
yes (Ok (Audited.Missing count)) = false
yes (Err r) = false

-- where the first search listed `count` matches
unfoldable pub told_second : ℕ → SearchAnswer → Both
told_second count (Ok (Found.All candidates matches)) = Both.Listed count matches
told_second count (Ok (Found.Full candidates matches)) = Both.SecondSearch (Ok (Found.Full candidates matches))
told_second count (Ok (Found.Few candidates matches)) = Both.SecondSearch (Ok (Found.Few candidates matches))
told_second count (Err r) = Both.SecondSearch (Err r)

unfoldable pub told_found : SearchAnswer → SearchAnswer → Both
told_found (Ok (Found.All candidates matches)) second = told_second matches second
told_found (Ok (Found.Full candidates matches)) second = Both.FirstSearch (Ok (Found.Full candidates matches))
told_found (Ok (Found.Few candidates matches)) second = Both.FirstSearch (Ok (Found.Few candidates matches))
told_found (Err r) second = Both.FirstSearch (Err r)

-- what two audits and two searches come to
unfoldable pub told : AuditAnswer → AuditAnswer → SearchAnswer → SearchAnswer → Both
told one two first second = cond (yes one) (cond (yes two) (told_found first second) (Both.SecondAudit two)) (Both.FirstAudit one)

-- the audit of a search's index, against the part of the series that it covers
abbrev pub audit_of : SearchCall → AuditCall
audit_of c = record { series = covered c.index c.series; index = c.index }

unfoldable pub demand_answer : SearchCall → Index → SearchBuffers → SearchBuffers → Both
demand_answer c x b₁ b₂ = told (audit_answer (audit_of c)) (audit_answer (audit_of (through x c))) (search_answer c b₁) (search_answer (through x c) b₂)

-- ---- the same in this paper's numbers

-- of the first that stands in the way: the first audit, the second, the first search, the second; else of both lists
unfoldable pub in_turn : {A : Type 0} → SearchCall → Index → SearchBuffers → SearchBuffers → A → A → A → A → A → A
in_turn c x b₁ b₂ one two first second lists =
    cond (yes (audit_answer (audit_of c)))
    (cond (yes (audit_answer (audit_of (through x c)))) (elim (search_refusal c b₁) [ Some r ↦ first | None ↦ elim (search_refusal (through x c) b₂) [ Some r ↦ second | None ↦ lists ] ]) two)
    one

-- number and place
abbrev pub demand_refusal : SearchCall → Index → SearchBuffers → SearchBuffers → Option (ℕ × ℕ)
demand_refusal c x b₁ b₂ =
    in_turn c x b₁ b₂ (first_refusal (audit_table most_values (audit_of c))) (first_refusal (audit_table most_values (audit_of (through x c)))) (search_refusal c b₁) (search_refusal (through x c) b₂) None

-- the first row and offset filed wrongly
abbrev pub demand_wrong : SearchCall → Index → SearchBuffers → SearchBuffers → Option (ℕ × ℕ)
demand_wrong c x b₁ b₂ = in_turn c x b₁ b₂ (audit_wrong (audit_of c)) (audit_wrong (audit_of (through x c))) None None None

-- how many windows stand nowhere
abbrev pub demand_missing : SearchCall → Index → SearchBuffers → SearchBuffers → ℕ
demand_missing c x b₁ b₂ = in_turn c x b₁ b₂ (audit_missing (audit_of c)) (audit_missing (audit_of (through x c))) 0 0 0

-- how many matches each list has
abbrev pub demand_counts : SearchCall → Index → SearchBuffers → SearchBuffers → ℕ × ℕ
demand_counts c x b₁ b₂ = in_turn c x b₁ b₂ (0, 0) (0, 0) (0, 0) (0, 0) (length (search_matches c), length (search_matches (through x c)))

-- how many candidates and matches of a search that is refused: 0, but 24 gives both true counts
abbrev pub demand_found : SearchCall → Index → SearchBuffers → SearchBuffers → ℕ × ℕ
demand_found c x b₁ b₂ = in_turn c x b₁ b₂ (0, 0) (0, 0) (search_counts c b₁) (search_counts (through x c) b₂) (0, 0)

-- ---- the promise

-- the answer has both counts; counts and lists are the same, and each list is exactly all matches
pub record BothListed (c : SearchCall) (answer : Both) (after₁ after₂ : SearchBuffers) : Type 0 where
  pub count₁ : ℕ
  pub count₂ : ℕ
  pub answered : answer ≡ Both.Listed count₁ count₂
  pub same : SameMatches c count₁ count₂ (list_in count₁ after₁) (list_in count₂ after₂)

-- `c` is the first search, `through x c` the same search through the other index
pub record Demand3Kept (c : SearchCall) (x : Index) (before₁ before₂ : SearchBuffers) (answer : Both) (after₁ after₂ : SearchBuffers) : Type 0 where
  -- where both audits say yes and neither search is refused
  pub listed : PassesCovered c.index c.series → PassesCovered x c.series → search_refusal c before₁ ≡ None → search_refusal (through x c) before₂ ≡ None → BothListed c answer after₁ after₂
  -- where not, the first that fails is told, with all that it answered: the audits, then the searches
  pub first-audit : (PassesCovered c.index c.series → ⊥) → answer ≡ Both.FirstAudit (audit_answer (audit_of c))
  pub second-audit : PassesCovered c.index c.series → (PassesCovered x c.series → ⊥) → answer ≡ Both.SecondAudit (audit_answer (audit_of (through x c)))
  pub first-search : PassesCovered c.index c.series → PassesCovered x c.series → (search_refusal c before₁ ≡ None → ⊥) → answer ≡ Both.FirstSearch (search_answer c before₁)
  pub second-search : PassesCovered c.index c.series → PassesCovered x c.series → search_refusal c before₁ ≡ None → (search_refusal (through x c) before₂ ≡ None → ⊥) → answer ≡ Both.SecondSearch (search_answer (through x c) before₂)
  -- this paper's number and place, wrong row and offset, windows that stand nowhere, matches of both lists, and true counts of 24
  pub refused : both_refusal answer ≡ demand_refusal c x before₁ before₂
  pub wrong : both_wrong answer ≡ demand_wrong c x before₁ before₂
  pub missing : both_missing answer ≡ demand_missing c x before₁ before₂
  pub counted : both_counts answer ≡ demand_counts c x before₁ before₂
  pub found : both_found answer ≡ demand_found c x before₁ before₂
  -- in any case all buffers are as each search leaves them
  pub first : SearchKept c before₁ (search_answer c before₁) after₁
  pub second : SearchKept (through x c) before₂ (search_answer (through x c) before₂) after₂
