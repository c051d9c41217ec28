-- The promise of checking candidates leaves one outcome: what is told, and what stands in every buffer.
use Rattle.std.specs.Prelude.{Ok, Err}
use Rattle.std.specs.declared.result.Result.{Result}
use Rattle.meaning_numbers.proofs.Prelude.{◌≡◌, ap, ◌∙◌, sym, List, ℕ, ℤ}
use Rattle.meaning_filter.specs.declared.Ask.{Ask}
use Rattle.meaning_entries.specs.{declared.Found.Found, declared.Refusal.Refusal}
use Rattle.candidate_find.specs.declared.Sought.{Sought}
use Rattle.entry_search.specs.Finished.{Finished}

module _ (ask : Ask) (s q : List ℤ) (first last offsets distances : List ℕ) {a b : Result Found Refusal} {offsets' distances' offsets'' distances'' : List ℕ} where
  pub finished-only : (t : Result Sought Refusal) → Finished ask s q t first last offsets distances a offsets' distances' → Finished ask s q t first last offsets distances b offsets'' distances''
      → (a ≡ b) × (offsets' ≡ offsets'') × (distances' ≡ distances'')
  finished-only (Ok m) k l =
      let x = k.2 in
      let y = l.2 in
      (k.1 ∙ ap (λ f. Ok f) (x.answered ∙ sym y.answered) ∙ sym l.1, x.list.offsets_are ∙ sym y.list.offsets_are, x.list.distances-are ∙ sym y.list.distances-are)
  finished-only (Err r) k l = (k.0 ∙ sym l.0, k.1 ∙ sym l.1, k.2 ∙ sym l.2)
