-- When a query is flat, as code finds it.
use Rattle.meaning_numbers.proofs.Prelude.{◌≡◌, refl, ap, ◌∙◌, Bool, false, List, ℕ, zero-add, eqb, ℤ, length}
use Rattle.meaning_curves.specs.{Curve.at, Curve.stretch, Curve.spread, Normal.flat}
use Rattle.meaning_curves.proofs.Same.{spread_same}
use Rattle.meaning_filter.specs.declared.Kind.{Kind}
use Rattle.meaning_entries.specs.Refusal.{normal_flat}

pub flat-is : (q : List ℤ) (a : ℕ) → a ≡ spread (stretch q 0) (length q) → eqb a 0 ≡ flat (at q) (length q)
flat-is q a e = ap (λ n. eqb n 0) (e ∙ spread_same (record { at = λ k l. rw zero-add refl }))

pub raw-flat : {kind : Kind} (q : List ℤ) → kind ≡ Kind.Raw → false ≡ normal_flat kind q
unfolding normal_flat
raw-flat q e = rw e

pub normal-is-flat : {kind : Kind} {b : Bool} (q : List ℤ) → kind ≡ Kind.Normal → b ≡ flat (at q) (length q) → b ≡ normal_flat kind q
unfolding normal_flat
normal-is-flat q e f = rw e f
