-- Tests as the code makes them, without a difference that may be negative: window counts (`fewer-is`, `more-is`, `not_more`), the room of a buffer (`short-is`, `not_short`), a band (`band-is`) and limits that begin at 0 (`from_zero`).
use Rattle.meaning_numbers.specs.Order.{within}
use Rattle.meaning_numbers.proofs.Between.{within-yes, yes-within}
use Rattle.meaning_numbers.proofs.Prelude.{◌≡◌, sym, ap, ◌∙◌, true, false, not, ⊎_elim, ℕ, ◌+◌, ◌-◌, ◌<◌, ◌≤◌, arith, leb, ltb, ℤ, pos, ◌+ℤ◌, ◌-ℤ◌, lt_z, ◌<ℤ◌, ◌≤ℤ◌, leb-true, leb-false, ltb-true, ltb-false, le-leb, lt-ltb, le-ltb, zarith, z-add, z-sub, lt-lt_z, le-lt_z, is_true, is_false, decided, by-test}
use Rattle.meaning_curves.specs.Limits.{band_in}

module _ (a w n : ℕ) where
  -- how many windows of length w n values have, below 1 where w is above n
  abbrev pub had : ℤ
  had = pos n -ℤ pos w +ℤ pos 1

  pub fewer-is : leb (a + w) n ≡ lt_z (pos a) had
  fewer-is = by-test _
      (λ t. let g : pos a <ℤ had = omega (zarith, leb-true (a + w) n t, z-add (pos n -ℤ pos w) (pos 1), z-sub (pos n) (pos w)) in t ∙ sym (lt-lt_z g))
      (λ f. let g : had ≤ℤ pos a = omega (zarith, leb-false (a + w) n f, z-add (pos n -ℤ pos w) (pos 1), z-sub (pos n) (pos w)) in f ∙ sym (le-lt_z g))

  pub more-is : ltb (n + 1) (a + w) ≡ lt_z had (pos a)
  more-is = by-test _
      (λ t. let g : had <ℤ pos a = omega (zarith, ltb-true (n + 1) (a + w) t, z-add (pos n -ℤ pos w) (pos 1), z-sub (pos n) (pos w)) in t ∙ sym (lt-lt_z g))
      (λ f. let g : pos a ≤ℤ had = omega (zarith, ltb-false (n + 1) (a + w) f, z-add (pos n -ℤ pos w) (pos 1), z-sub (pos n) (pos w)) in f ∙ sym (le-lt_z g))

  pub not_more : a + w ≤ n → false ≡ lt_z had (pos a)
  not_more h = let g : pos a ≤ℤ had = omega (zarith, h, z-add (pos n -ℤ pos w) (pos 1), z-sub (pos n) (pos w)) in sym (le-lt_z g)

module _ (room w n : ℕ) where
  pub short-is : w ≤ n → leb room (n - w) ≡ ltb room (n + 1 - w)
  short-is h = by-test _
      (λ t. t ∙ sym (lt-ltb room _ (omega (arith, leb-true room (n - w) t))))
      (λ f. f ∙ sym (le-ltb room _ (omega (arith, leb-false room (n - w) f))))

  pub not_short : n < w → false ≡ ltb room (n + 1 - w)
  not_short h = sym (le-ltb room _ (omega arith))

module _ (m b : ℕ) where
  band-in : b < m → band_in m (pos b) ≡ true
  band-in h = is_true _ (yes-within (record { low = omega zarith; high = omega (zarith, z-sub (pos m) (pos 1)) }))

  band-out : m ≤ b → band_in m (pos b) ≡ false
  band-out h = ⊎_elim (λ t. absurd (omega (zarith, (within-yes (pos 0) _ (pos b) t).high, z-sub (pos m) (pos 1)))) (is_false _) (decided (band_in m (pos b)))

  pub band-is : leb m b ≡ not (band_in m (pos b))
  band-is = by-test _ (λ t. t ∙ sym (ap not (band-out (leb-true m b t)))) (λ f. f ∙ sym (ap not (band-in (leb-false m b f))))

-- limits that begin at 0
pub from_zero : (most n : ℕ) → leb n most ≡ within (pos 0) (pos most) (pos n)
unfolding within
from_zero most n = rw (le-leb 0 n (omega arith))
