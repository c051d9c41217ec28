-- Laws of specs/New.
use Rattle.meaning_numbers.proofs.Sum.{Σℤ-same}
use Rattle.meaning_numbers.proofs.Prelude.{◌≡◌, refl, ap, ◌∙◌, List, map, ℕ, zero, suc, ◌+◌, ◌-◌, ◌*◌, ◌<◌, arith, ltb, ℤ, pos, length, get_or, take, drop, length-drop, get_or-drop, take_all, ltb-true, ltb-false, by-test}
use Rattle.meaning_curves.specs.Curve.{stretch, window_sum}
use Rattle.meaning_rows.specs.Build.{row_numbers}
use Rattle.sums_slide.specs.Levels.{Lent, windows_of}
use Rattle.sums_count.specs.Numbers.{lowered}
use Rattle.sums_count.proofs.Numbers.{table-numbers}
use Rattle.extend_new.specs.New.{new_table}

-- the windows from `old` on are those of the rest of the series
pub rest-lent : {s : List ℤ} {w e : ℕ} (old : ℕ) → old < windows_of s w → Lent s w e → Lent (drop old s) w e
rest-lent {s} {w} {e} old l h =
    let n = length-drop old s in
    record {
      all = record { at = λ k. rw (get_or-drop old s k (pos 0)) (h.all.at (old + k)) };
      some = h.some;
      most = h.most;
      fits = omega (arith, n, h.some);
      long = omega (arith, n, h.long);
      small = h.small;
    }

-- the rest of a list, as it is lent
pub rest-whole : (s : List ℤ) (old : ℕ) → take (length s - old) (drop old s) ≡ drop old s
rest-whole s old = take_all (length s - old) (drop old s) (omega (arith, length-drop old s))

pub rest_sum : (s : List ℤ) (old w j : ℕ) → window_sum (drop old s) w j ≡ window_sum s w (old + j)
unfolding window_sum
rest_sum s old w j = Σℤ-same w (stretch (drop old s) j) (stretch s (old + j)) (λ k b. let e : old + (j + k) ≡ old + j + k = omega arith in get_or-drop old s (j + k) (pos 0) ∙ ap (λ (i : ℕ). get_or s i (pos 0)) e)

numbers-same : (f g : ℕ → ℤ) (d n : ℕ) → ((j : ℕ) → f j ≡ g j) → row_numbers f d n ≡ row_numbers g d n
unfolding row_numbers
numbers-same f g d zero h = refl
numbers-same f g d (suc n) h = rw (h n, numbers-same f g d n h)

pub new-numbers : {s : List ℤ} {w e : ℕ} (old d b : ℕ) → 0 < d → 10000 * w + e ≡ b * d → Lent s w e
    → map (lowered b) (new_table s old w e d) ≡ row_numbers (λ j. window_sum s w (old + j)) d (windows_of s w - old)
unfolding new_table row_numbers
new-numbers {s} {w} {e} old d b one bias h = by-test (ltb old (windows_of s w))
    (λ t. let l = ltb-true old (windows_of s w) t in
    let n : windows_of (drop old s) w ≡ windows_of s w - old = omega (arith, length-drop old s, h.some) in
    rw t (table-numbers d b one bias (rest-lent old l h) ∙ ap (row_numbers (window_sum (drop old s) w) d) n ∙ numbers-same (window_sum (drop old s) w) (λ j. window_sum s w (old + j)) d (windows_of s w - old) (λ j. rest_sum s old w j)))
    (λ f. let l = ltb-false old (windows_of s w) f in let n : windows_of s w - old ≡ 0 = omega arith in rw (f, n) refl)
