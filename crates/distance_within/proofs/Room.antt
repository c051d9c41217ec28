-- Normalised values in room that is lent are those of the stretch.
use Rattle.meaning_numbers.proofs.Prelude.{refl, List, ℕ, zero-add, ℤ}
use Rattle.meaning_curves.specs.{Curve.stretch, Normal.normalised}
use Rattle.meaning_curves.proofs.Same.{Same}
use Rattle.distance_normal.specs.Stretch.{Normalised}

pub normal-room : {s : ℕ → ℤ} {m : ℕ} {out : List ℤ} → Normalised s m out → Same m (stretch out 0) (normalised s m)
normal-room n = record { at = λ k l. rw zero-add (n.at k l) }

pub same_self : (m : ℕ) (q : ℕ → ℤ) → Same m q q
same_self m q = record { at = λ k l. refl }
