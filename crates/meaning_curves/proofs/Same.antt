-- Distances, spreads and normalised values of m values ask for those values alone: curves that agree below m have the same (`distance-same`, `spread_same`, `normalised-same`). For the warped distance, each path of the one is a path of the other (`path-same`).
use Rattle.meaning_numbers.specs.Sum.{square}
use Rattle.meaning_numbers.proofs.Sum.{Σℤ-same, Σℕ-same}
use Rattle.meaning_numbers.proofs.Prelude.{◌≡◌, sym, ℕ, suc, ◌<◌, arith, ℤ, nat_abs}
use Rattle.meaning_curves.specs.{Curve.spread, Warp.WarpPath, Warp.start, Warp.first, Warp.second, Warp.both, Warp.IsWarped, Normal.normalised, Match.distance}
use Rattle.meaning_curves.proofs.{Table.warped-only, Straight.distance_least}

-- two curves agree below m
pub record Same (m : ℕ) (s t : ℕ → ℤ) : Type 0 where
  pub at : (k : ℕ) → k < m → s k ≡ t k

pub same-sym : {m : ℕ} {s t : ℕ → ℤ} → Same m s t → Same m t s
same-sym h = record { at = λ k l. sym (h.at k l) }

pub path-same : {m : ℕ} {s t q r : ℕ → ℤ} {b i j d : ℕ} → Same m s t → Same m q r → WarpPath s q b i j d → i < m → j < m → WarpPath t r b i j d
path-same h k start li lj = rw (h.at 0 li, k.at 0 lj) start
path-same h k (first {i} {j} p n) li lj = rw (h.at (suc i) li, k.at j lj) (first (path-same h k p (omega arith) lj) n)
path-same h k (second {i} {j} p n) li lj = rw (h.at i li, k.at (suc j) lj) (second (path-same h k p li (omega arith)) n)
path-same h k (both {i} {j} p n) li lj = rw (h.at (suc i) li, k.at (suc j) lj) (both (path-same h k p (omega arith) (omega arith)) n)

warped-same : {m : ℕ} {s t q r : ℕ → ℤ} {b d : ℕ} → 0 < m → Same m s t → Same m q r → IsWarped s q b m d → IsWarped t r b m d
warped-same {m} long h k i = record {
  attained = path-same h k i.attained (omega arith) (omega arith);
  least = λ t p. i.least t (path-same (same-sym h) (same-sym k) p (omega arith) (omega arith));
}

pub distance-same : {m : ℕ} {s t q r : ℕ → ℤ} (b : ℕ) → 0 < m → Same m s t → Same m q r → distance s q b m ≡ distance t r b m
distance-same {m} {s} {t} {q} {r} b long h k = warped-only (warped-same long h k (distance_least s q b m long)) (distance_least t r b m long)

pub spread_same : {m : ℕ} {s t : ℕ → ℤ} → Same m s t → spread s m ≡ spread t m
unfolding spread
spread_same {m} {s} {t} h =
    rw (Σℤ-same m s t h.at, Σℕ-same m (λ k. square (nat_abs (s k))) (λ k. square (nat_abs (t k))) (λ k l. rw (h.at k l)))

pub normalised-same : {m : ℕ} {s t : ℕ → ℤ} → Same m s t → Same m (normalised s m) (normalised t m)
unfolding normalised
normalised-same {m} {s} {t} h = record { at = λ k l. rw (spread_same h, Σℤ-same m s t h.at, h.at k l) }
