-- Demand 3, proved as specs/Demand3.antt states it. Each of the two searches has listed the matches that it means (`listed-is`), its index lets the filter reach every window (`passes-reached`),
-- so what it means is all matches (`matches-all`), which do not depend on the index.
use Rattle.meaning_numbers.proofs.Prelude.{◌≡◌, sym, ap, subst, ◌∙◌, List, ℕ, length}
use Rattle.meaning_filter.specs.Matches.{all_matches, Exactly}
use Rattle.meaning_filter.proofs.Matches.{all-exactly}
use Rattle.meaning_entries.specs.{Search.SearchCall, Search.question, Demand3.Searched, Demand3.through, Demand3.Demand3}
use Rattle.meaning_entries.proofs.{Looked.plan-passed, Looked.matches-all, Listed.answered, Listed.listed-is}

-- one search: its list is all matches, and its count is how many
pub all_listed : (c : SearchCall) (n : ℕ) (l : List (ℕ × ℕ)) → Searched c n l → (l ≡ all_matches (question c)) × (n ≡ length (all_matches (question c)))
all_listed c n l s =
    let a = answered c s.before s.kept.answered in
    let f = matches-all c s.before (plan-passed c s.before a.passed) s.passes in
    (s.listed ∙ listed-is c s.before s.after s.kept ∙ f, a.counted ∙ ap length f)

pub demand3 : Demand3
unfolding question
demand3 c x n₁ n₂ l₁ l₂ one two =
    let a = all_listed c n₁ l₁ one in
    let b = all_listed (through x c) n₂ l₂ two in
    record {
      counts = a.1 ∙ sym b.1;
      lists = a.0 ∙ sym b.0;
      all = a.0;
      exact = subst (Exactly (question c)) (sym a.0) (all-exactly (question c));
      long = a.1 ∙ ap length (sym a.0);
    }
