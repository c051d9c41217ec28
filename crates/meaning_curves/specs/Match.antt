-- The four kinds of match: raw or normalised, each straight (band 0) or warped.
use Rattle.std.specs.Prelude.{ℕ, zero, suc, ◌*◌, leb, ℤ, ◌-ℤ◌, nat_abs, Bool, not, ◌&&◌}
use Rattle.meaning_curves.specs.{Curve.total, Curve.spread, Straight.straight, Table.warped, Normal.normalised, Normal.flat}

-- 01, The product: band 0 is straight
unfoldable pub distance : (s q : ℕ → ℤ) → ℕ → ℕ → ℕ
distance s q zero m = straight s q m
distance s q (suc b) m = warped s q (suc b) m

-- 01, Distances: for a normalised query the distance is that between normalised values
abbrev pub normal_distance : (s q : ℕ → ℤ) → ℕ → ℕ → ℕ
normal_distance s q b m = distance (normalised s m) (normalised q m) b m

-- 01, Distances: a stretch matches a raw query exactly if its distance is at most E
unfoldable pub raw_match : (s q : ℕ → ℤ) → (m b E : ℕ) → Bool
raw_match s q m b E = leb (distance s q b m) E

-- 01, Distances: 100 × A(s) ≤ a² × A(q), 100 × A(q) ≤ a² × A(s)
abbrev pub scale_near : (s q : ℕ → ℤ) → (m a : ℕ) → Bool
scale_near s q m a = leb (100 * spread s m) (a * a * spread q m) && leb (100 * spread q m) (a * a * spread s m)

-- 01, Distances: |T(s) - T(q)| ≤ m × h
abbrev pub shift_near : (s q : ℕ → ℤ) → (m h : ℕ) → Bool
shift_near s q m h = leb (nat_abs (total s m -ℤ total q m)) (m * h)

-- 01, Distances: a flat stretch matches no normalised query; another matches exactly if its distance is at most E and scale and shift are within their limits
unfoldable pub normal_match : (s q : ℕ → ℤ) → (m b E a h : ℕ) → Bool
normal_match s q m b E a h = not (flat s m) && (scale_near s q m a && (shift_near s q m h && leb (normal_distance s q b m) E))
