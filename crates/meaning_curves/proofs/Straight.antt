-- At band 0 a path is the diagonal: its total is the sum of squared differences (`diagonal`), and there is one (`diagonal-path`). So the straight distance is the warped one at band 0 (`straight-is`), and `distance` is the warped distance at every band (`distance_is`).
use Rattle.meaning_numbers.specs.Sum.{Σℕ}
use Rattle.meaning_numbers.proofs.Prelude.{◌≡◌, refl, sym, ℕ, zero, suc, ◌-◌, ◌<◌, arith, zero-add, ℤ}
use Rattle.meaning_curves.specs.{Straight.straight, Warp.WarpPath, Warp.start, Warp.first, Warp.second, Warp.both, Warp.IsWarped, Table.warped, Match.distance}
use Rattle.meaning_curves.proofs.Table.{warped-is}

pub diagonal : {s q : ℕ → ℤ} {i j t : ℕ} → WarpPath s q 0 i j t → (i ≡ j) × (t ≡ straight s q (suc i))
unfolding straight Σℕ
diagonal start = (refl, omega arith)
diagonal (first p n) = let d = diagonal p in absurd (omega arith)
diagonal (second p n) = let d = diagonal p in absurd (omega arith)
diagonal {s} (both {i} {j} p n) = let d = diagonal p in let e : j ≡ i = omega arith in rw e (refl, omega arith)

pub diagonal-path : (s q : ℕ → ℤ) (i : ℕ) → WarpPath s q 0 i i (straight s q (suc i))
unfolding straight Σℕ
diagonal-path s q zero = rw zero-add start
diagonal-path s q (suc i) = both (diagonal-path s q i) (omega arith)

pub straight-is : (s q : ℕ → ℤ) (m : ℕ) → 0 < m → warped s q 0 m ≡ straight s q m
straight-is s q m h =
    let e : suc (m - 1) ≡ m = omega arith in
    rw e at (diagonal (warped-is s q 0 m).attained).1

pub distance_is : (s q : ℕ → ℤ) (b m : ℕ) → 0 < m → distance s q b m ≡ warped s q b m
unfolding distance
distance_is s q zero m h = sym (straight-is s q m h)
distance_is s q (suc b) m h = refl

-- so the distance is the least total of the paths
pub distance_least : (s q : ℕ → ℤ) (b m : ℕ) → 0 < m → IsWarped s q b m (distance s q b m)
distance_least s q b m h = rw (distance_is s q b m h) (warped-is s q b m)
