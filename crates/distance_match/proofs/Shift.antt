-- Raised sums differ as the sums do (`shift-raised`), and a spread is not large (`spread-limit`).
use Rattle.meaning_numbers.specs.Sum.{Σℕ}
use Rattle.meaning_numbers.proofs.Prelude.{◌≡◌, sym, ap, List, ℕ, ◌*◌, ◌≤◌, arith, ℤ, pos, ◌-ℤ◌, nat_abs, rep_pos, rep-sub, rep-eq}
use Rattle.meaning_numbers.proofs.{Sum.Σℤ-same, Root.sq-le}
use Rattle.meaning_curves.specs.Curve.{at, stretch, total, spread}
use Rattle.meaning_curves.proofs.{Values.AllIn, Values.size-le, Sizes.spread-le}
use Rattle.meaning_filter.specs.declared.Kind.{Kind}
use Rattle.numbers.specs.Raised.{raised}
use Rattle.values.proofs.SumsLaws.{sum-raised}
use Rattle.distance_query.specs.Ready.{Ready}
use Rattle.distance_query.proofs.Ready.{from_start}

-- ---- the raised sums differ as the sums do

pub shift-raised : {s q : List ℤ} {p r : ℕ} (from m : ℕ) → AllIn s → AllIn q → p ≡ Σℕ m (λ k. raised (stretch s from k)) → r ≡ Σℕ m (λ k. raised (stretch q 0 k))
    → nat_abs (pos p -ℤ pos r) ≡ nat_abs (total (stretch s from) m -ℤ total (at q) m)
shift-raised {q = q} {p} {r} from m h k e f =
    rw (sym (Σℤ-same m _ (at q) (from_start q m).at))
    (ap nat_abs (rep-eq (rep-sub (rep_pos p) (rep_pos r)) (rep-sub (sum-raised from m h) (sum-raised 0 m k)) (omega arith)))

-- ---- how large a spread gets

pub spread-limit : {q : List ℤ} (m : ℕ) → AllIn q → m ≤ 1024 → spread (at q) m ≤ 419430400000000
spread-limit {q} m h short = omega (arith, spread-le (at q) m 10000 (λ k l. size-le (h.at k)), sq-le {x = m * 10000} {y = 10240000} (omega arith))

-- ---- what is ready for a kind that is told

pub of-kind : {kind other : Kind} {q curve low high : List ℤ} {b p A : ℕ} → kind ≡ other → Ready kind q b curve low high p A → Ready other q b curve low high p A
of-kind e r = rw e at r
