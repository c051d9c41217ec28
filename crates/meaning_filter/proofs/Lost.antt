-- Why X has - w and Y has + w: without, a match is lost. The query 0 0 1000 matches itself, and the sum of its first part, 0, lies below the lower end 4 that Q- - r gives; X = Q- - r - w gives -1. By computation.
use Rattle.meaning_numbers.specs.{Sum.Σℤ, Order.minℤ, Quotient.ceilℤ}
use Rattle.meaning_numbers.proofs.Prelude.{◌≡◌, refl, [], ◌∷◌, ℕ, ◌+◌, ◌*◌, T, ℤ, pos, negsuc, ◌+ℤ◌, ◌-ℤ◌, ◌*ℤ◌, ◌<ℤ◌}
use Rattle.meaning_curves.specs.{Curve.at, Curve.total, Curve.spread, Normal.normalised}
use Rattle.meaning_filter.specs.{declared.Kind.TheVariants.Normal, declared.Limits.Limits, Range.raw_low, Range.low_scale, Range.high_scale, Range.range_of, Matches.matches}
use Rattle.meaning_filter.proofs.Open.{open_filter}

-- the lower end with Q- - r for X
bare_low : (ℕ → ℤ) → (m b E a h p w : ℕ) → ℤ
bare_low q m b E a h p w =
    let X = raw_low (normalised q m) m b E p w in
    let A = spread q m in
    ceilℤ (minℤ (X *ℤ pos (low_scale A a)) (X *ℤ pos (high_scale A a)) +ℤ pos (100 * w) *ℤ (total q m -ℤ pos (m * h))) (100 * m)

peak : ℕ → ℤ
peak = at (pos 0 ∷ pos 0 ∷ pos 1000 ∷ [])

narrow : Limits
narrow = record { band = 0; threshold = 0; scale = 10; shift = 0 }

-- the match, its first part's sum, and the two lower ends
lost : T (matches Normal peak peak 3 narrow) × (Σℤ 1 (λ k. peak (0 * 1 + k)) <ℤ bare_low peak 3 0 0 10 0 0 1) × ((range_of Normal peak 3 narrow 1 0).0 ≡ negsuc 0)
unfolding open_filter bare_low peak narrow
lost = (tt, record { lt = tt }, refl)
