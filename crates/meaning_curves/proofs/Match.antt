-- When a stretch matches a query, as facts: the tests `raw_match` and `normal_match` pass exactly where they hold.
use Rattle.meaning_numbers.proofs.Prelude.{not, ℕ, zero, suc, ◌*◌, ◌<◌, ◌≤◌, arith, T, leb, eqb, leb→le, ℤ, ◌-ℤ◌, nat_abs, two-tests}
use Rattle.meaning_curves.specs.{Curve.total, Curve.spread, Normal.flat, Match.distance, Match.normal_distance, Match.raw_match, Match.normal_match, Match.scale_near, Match.shift_near}

-- of a stretch s with a query q, both of m values
pub record RawMatch (s q : ℕ → ℤ) (m b E : ℕ) : Type 0 where
  pub near : distance s q b m ≤ E

pub record NormalMatch (s q : ℕ → ℤ) (m b E a h : ℕ) : Type 0 where
  pub not-flat : 0 < spread s m
  pub up : 100 * spread s m ≤ a * a * spread q m
  pub down : 100 * spread q m ≤ a * a * spread s m
  pub shift : nat_abs (total s m -ℤ total q m) ≤ m * h
  pub near : normal_distance s q b m ≤ E

pub raw-yes : (s q : ℕ → ℤ) (m b E : ℕ) → T (raw_match s q m b E) → RawMatch s q m b E
unfolding raw_match
raw-yes s q m b E t = record { near = leb→le _ _ t }

-- what is not 0 is above it
above : (n : ℕ) → T (not (eqb n 0)) → 0 < n
above zero t = absurd t
above (suc n) t = omega arith

pub normal-yes : (s q : ℕ → ℤ) (m b E a h : ℕ) → T (normal_match s q m b E a h) → NormalMatch s q m b E a h
unfolding normal_match
normal-yes s q m b E a h t =
    let whole = two-tests (not (flat s m)) _ t in
    let rest = two-tests (scale_near s q m a) _ whole.1 in
    let last = two-tests (shift_near s q m h) _ rest.1 in
    let scale = two-tests (leb (100 * spread s m) (a * a * spread q m)) _ rest.0 in
    record { not-flat = above _ whole.0; up = leb→le _ _ scale.0; down = leb→le _ _ scale.1; shift = leb→le _ _ last.0; near = leb→le _ _ last.1 }
