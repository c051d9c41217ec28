-- Laws of specs/Stretch.
use Rattle.meaning_numbers.proofs.Prelude.{List, ℕ, ◌<◌, ◌≤◌, arith, ℤ, pos, negsuc, nat_abs, zarith}
use Rattle.meaning_curves.specs.{Curve.spread, Normal.normalised}
use Rattle.meaning_curves.proofs.{Sizes.normal-small, Values.InLimits, Values.AllIn, Values.all_in}
use Rattle.distance_normal.specs.Stretch.{Normalised}

in_size : (x : ℤ) → nat_abs x ≤ 3200 → InLimits x
in_size (pos n) h = record { low = omega zarith; high = omega zarith }
in_size (negsuc n) h = record { low = omega zarith; high = omega zarith }

pub value_in : (s : ℕ → ℤ) (m k : ℕ) → 0 < spread s m → k < m → m ≤ 1024 → InLimits (normalised s m k)
value_in s m k some b short = in_size _ (normal-small s m k some b short)

pub normalised-in : {s : ℕ → ℤ} {m : ℕ} {out : List ℤ} → 0 < spread s m → m ≤ 1024 → Normalised s m out → AllIn out
normalised-in {s} {m} {out} some short h = all_in out (λ k l. let b : k < m = omega arith in rw (h.at k b) (value_in s m k some b short))
