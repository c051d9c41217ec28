-- Laws of specs/Ready.
use Rattle.meaning_numbers.proofs.Prelude.{◌≡◌, refl, sym, ◌∙◌, List, ℕ, ◌<◌, ◌≤◌, zero-add, ℤ, length}
use Rattle.meaning_curves.specs.Curve.{at, stretch, spread}
use Rattle.meaning_curves.proofs.{Values.AllIn, Same.Same, Same.normalised-same}
use Rattle.meaning_filter.specs.declared.Kind.TheVariants.{Raw, Normal}
use Rattle.distance_normal.specs.Stretch.{Normalised}
use Rattle.distance_normal.proofs.Stretch.{normalised-in}
use Rattle.distance_query.specs.Ready.{IsCurve}
pub use Rattle.distance_normal.proofs.Stretch.{value_in}

-- ---- a stretch from the first place on is the list itself

pub from_start : (q : List ℤ) (m : ℕ) → Same m (stretch q 0) (at q)
from_start q m = record { at = λ k l. rw zero-add refl }

-- ---- a curve of each kind

pub raw-curve : {q out : List ℤ} → AllIn q → out ≡ q → IsCurve Raw q out
raw-curve h e = rw e (record { long = refl; same = record { at = λ k l. refl }; inside = h })

pub normal-curve : {q out : List ℤ} {a : ℕ} → length q ≤ 1024 → a ≡ spread (stretch q 0) (length q) → 0 < a → Normalised (stretch q 0) (length q) out → IsCurve Normal q out
normal-curve {q} {out} short e some n = record {
  long = n.long;
  same = record { at = λ k l. n.at k l ∙ (normalised-same (from_start q (length q))).at k l };
  inside = normalised-in (rw (sym e) some) short n;
}
