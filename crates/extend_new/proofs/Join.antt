-- Laws of specs/Join.
use Rattle.meaning_numbers.proofs.Prelude.{◌≡◌, true, ℕ, ◌<◌, arith, dec_lt, clash}
use Rattle.sums_slide.specs.{Levels.within, Change.Stop}

-- a run that its first window's sum is in ends after it
pub stop-ahead : {lv : ℕ → ℕ} {n low up from r z : ℕ} → from < n → within low up (lv from) ≡ true → Stop lv n low up from r z → from < r
stop-ahead {lv} {n} {low} {up} {from} {r} {z} l t h = elim (dec_lt from r) [
  | yes a ↦ a
  | no f ↦ let e : r ≡ from = omega (arith, h.change.above) in clash t (rw e at (h.change.other (omega arith)))
]
