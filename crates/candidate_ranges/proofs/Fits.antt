-- A query that was made ready, within its limits, has the sizes that a frame is made from (`query-in`).
use Rattle.meaning_numbers.specs.Sum.{Σℕ, square}
use Rattle.meaning_numbers.proofs.Prelude.{refl, List, ℕ, ◌≤◌, arith, ℤ, length}
use Rattle.meaning_curves.specs.Curve.{stretch}
use Rattle.meaning_curves.proofs.{Values.AllIn, Same.spread_same}
use Rattle.meaning_filter.specs.{declared.Kind.Kind, declared.Limits.Limits}
use Rattle.numbers.specs.Raised.{raised}
use Rattle.values.specs.Sums.{AreSums}
use Rattle.values.proofs.SumsLaws.{sums-le, spread-bound}
use Rattle.distance_query.specs.Ready.{Ready}
use Rattle.distance_query.proofs.Ready.{from_start}
use Rattle.candidate_ranges.specs.Frame.{QueryIn}

-- the limits of a search, as far as ranges ask for them
pub record LimitsIn (w : ℕ) (l : Limits) : Type 0 where
  pub window : w ≤ 256
  pub threshold : l.threshold ≤ 1000000000000
  pub scale : 1 ≤ l.scale
  pub scale-most : l.scale ≤ 100
  pub shift : l.shift ≤ 20000

pub query-in : {kind : Kind} {q curve low high : List ℤ} {b p A w : ℕ} {l : Limits} → AllIn q → 1 ≤ length q → length q ≤ 1024 → LimitsIn w l → Ready kind q b curve low high p A → QueryIn (length q) w l p A
query-in {q = q} {p = p} h some most i r =
    let m = length q in
    let sums : AreSums q 0 m p (Σℕ m (λ k. square (raised (stretch q 0 k)))) = record { values = r.values; squares = refl } in
    record {
      some = some;
      most = most;
      window = i.window;
      threshold = i.threshold;
      scale = i.scale;
      scale-most = i.scale-most;
      shift = i.shift;
      values-most = (sums-le h sums).0;
      spread-most = omega (arith, r.spread, spread_same (from_start q m), spread-bound h sums most);
    }
