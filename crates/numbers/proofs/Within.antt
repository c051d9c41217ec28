-- Laws of specs/Within.
use Rattle.meaning_numbers.proofs.Prelude.{◌≡◌, ℕ, ◌<◌, ◌≤◌, arith, dec_le}
use Rattle.numbers.specs.Within.{Within}

pub whole : {d limit r : ℕ} → r ≡ d → Within d limit r
whole e = record { exact = λ h. e; above = λ h. omega arith }

pub left-early : {d limit r : ℕ} → r ≤ d → limit < r → Within d limit r
left-early h k = record { exact = λ l. absurd (omega arith); above = λ l. k }

-- above the limit there is no number but one that is too large
pub within-above : {d limit r : ℕ} → Within d limit r → limit < r → limit < d
within-above {d} {limit} w h = elim (dec_le d limit) [ yes l ↦ absurd (omega (arith, w.exact l)) | no f ↦ omega arith ]

-- at or below the limit it is the number
pub within-exact : {d limit r : ℕ} → Within d limit r → r ≤ limit → r ≡ d
within-exact {d} {limit} w h = elim (dec_le d limit) [ yes l ↦ w.exact l | no f ↦ absurd (omega (arith, w.above (omega arith))) ]
