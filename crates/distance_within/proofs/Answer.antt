-- Laws of specs/Answer.
use Rattle.meaning_numbers.proofs.Prelude.{◌≡◌, refl, true, false, ⊎_elim, None, Some, ℕ, ◌<◌, ◌≤◌, arith, dec_le, leb, leb→le, le→leb, ℤ, is_true, is_false, decided}
use Rattle.meaning_curves.specs.{Straight.straight, Match.distance}
use Rattle.numbers.specs.Within.{Within}
use Rattle.distance_within.specs.Answer.{nearness}

-- ---- tests of numbers

pub leb_yes : {x y : ℕ} → x ≤ y → leb x y ≡ true
leb_yes h = is_true _ (le→leb _ _ h)

pub leb_no : {x y : ℕ} → y < x → leb x y ≡ false
leb_no {x} {y} h = ⊎_elim (λ t. absurd (omega (arith, leb→le x y t))) (is_false _) (decided (leb x y))

-- ---- answers

pub yes-answer : {d E : ℕ} → d ≤ E → Some d ≡ nearness d E
yes-answer {d} {E} h = rw (leb_yes h)

pub no_answer : {d E : ℕ} → E < d → None ≡ nearness d E
no_answer {d} {E} h = rw (leb_no h)

pub within-answer : {d E r : ℕ} → Within d E r → nearness r E ≡ nearness d E
within-answer {d} {E} {r} w = elim (dec_le d E) [
  | yes h ↦ rw (w.exact h) refl
  | no f ↦ let h : E < d = omega arith in rw (leb_no h, leb_no (w.above h)) refl
]

-- band 0 is straight
pub straight-distance : {b : ℕ} (s q : ℕ → ℤ) (m : ℕ) → b ≡ 0 → straight s q m ≡ distance s q b m
unfolding distance
straight-distance s q m e = rw e refl
