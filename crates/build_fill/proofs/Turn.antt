-- Laws of specs/Turn.
use Rattle.meaning_numbers.proofs.Prelude.{◌≡◌, refl, sym, ◌∙◌, Bool, true, List, ℕ, ◌+◌, ◌*◌, ◌<◌, ◌≤◌, arith, dec_lt, ℤ, clash}
use Rattle.meaning_curves.specs.Curve.{window_sum}
use Rattle.meaning_rows.specs.Range.{inside}
use Rattle.sums_slide.specs.{declared.Window.Window, Ends.raised_end, Change.Change, Change.Stop, Levels.level, Levels.place_from, Levels.Lent, Levels.windows_of, Levels.level-small}
use Rattle.sums_slide.proofs.{Levels.level-is, EndsLaws.within-is}
use Rattle.build_fill.specs.Turn.{At}

-- the first window
pub first-at : {s : List ℤ} {w e : ℕ} {at : Window} → Lent s w e → at ≡ place_from s w e 0 → At s w e at × (at.offset ≡ 0)
first-at h q = rw q (record { lent = h; below = omega arith; sum = refl }, refl)

-- what `sum_of` asks of a window
pub sum-asked : {s : List ℤ} {w e : ℕ} {at : Window} → At s w e at → (w ≤ 256) × (e ≤ 1000000) × (at.level ≤ 1000000000)
sum-asked {at = at} h = (h.lent.most, h.lent.small, omega (arith, h.sum, level-small at.offset h.lent))

-- a change of one test is a change of another that agrees with it
pub change-same : {p q : ℕ → Bool} {from n r : ℕ} → ((j : ℕ) → p j ≡ q j) → Change p from n r → Change q from n r
change-same h c = record { above = c.above; below = c.below; same = λ j a b. sym (h j) ∙ c.same j a b; other = λ l. sym (h _) ∙ c.other l }

-- the end of the windows whose raised sums are in the raised range of a row is that of those whose sums are in its range
pub stop-held : {s : List ℤ} {w e from r z lo hi : ℕ} (low high : ℤ) → Lent s w e → lo ≡ raised_end (10000 * w + e) low → hi ≡ raised_end (10000 * w + e) high
    → Stop (level s w e) (windows_of s w) lo hi from r z → Change (λ j. inside low high (window_sum s w j)) from (windows_of s w) r
stop-held low high h p q t = change-same (λ j. rw (p, q) (within-is low high (level-is j h))) t.change

-- where the first passes, the change comes later
pub change-held : {p : ℕ → Bool} {from n r : ℕ} → from < n → p from ≡ true → Change p from n r → from < r
change-held {p} {from} {n} {r} l t c = elim (dec_lt from r) [ yes m ↦ m | no f ↦ let e : r ≡ from = omega arith in clash t (rw e at (c.other (omega arith))) ]
