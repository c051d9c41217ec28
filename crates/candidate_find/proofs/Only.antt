-- The promise of finding candidates leaves one outcome.
use Rattle.std.specs.Prelude.{Ok, Err, None, Some}
use Rattle.std.specs.declared.{option.Option.Option, result.Result.Result}
use Rattle.std.proofs.Common.{◌≡◌, sym, ap, ◌∙◌, List, ℕ, arith}
use Rattle.meaning_entries.specs.{declared.Refusal.Refusal, Answers.refusal, Search.SearchCall, Search.SearchBuffers}
use Rattle.candidate_find.specs.{declared.Sought.Sought, Sought.SoughtKept}

-- what refuses, and 0 where nothing does
abbrev refusing : Option (ℕ × ℕ) → Refusal
refusing None = refusal (0, 0)
refusing (Some p) = refusal p

abbrev refuses : Option (ℕ × ℕ) → ℕ
refuses None = 0
refuses (Some p) = 1

module _ (c : SearchCall) (b : SearchBuffers) {left' right' scratch' left'' right'' scratch'' : List ℕ} where
  pub sought-only : (t u : Result Sought Refusal) → SoughtKept c b t left' right' scratch' → SoughtKept c b u left'' right'' scratch'' → (t ≡ u) × (left' ≡ left'') × (right' ≡ right'') × (scratch' ≡ scratch'')
  sought-only (Ok m) (Ok n) k l =
      let g = k.left in
      let h = l.left in
      let runs = g.runs ∙ sym h.runs in
      let candidates = g.candidates ∙ sym h.candidates in (
        λ i. Ok (record { runs = runs i; candidates = candidates i }),
        g.handed-left ∙ sym h.handed-left,
        g.handed-right ∙ sym h.handed-right,
        g.cleared ∙ sym h.cleared,
      )
  sought-only (Err r) (Err o) k l =
      let same : r ≡ o = ap refusing (k.judged ∙ sym l.judged) in
      (ap (λ (r : Refusal). Err r) same, k.left.0 ∙ sym l.left.0, k.left.1 ∙ sym l.left.1, k.left.2 ∙ sym l.left.2)
  sought-only (Ok m) (Err o) k l = let z : ◌≡◌ {A = ℕ} 0 1 = ap refuses (k.judged ∙ sym l.judged) in absurd (omega arith)
  sought-only (Err r) (Ok n) k l = let z : ◌≡◌ {A = ℕ} 1 0 = ap refuses (k.judged ∙ sym l.judged) in absurd (omega arith)
