-- What the library's `min`, `max` and `abs_diff` answer, in the words of the meaning.
use Rattle.std.specs.Int.{int_min, int_max, abs_diff}
use Rattle.meaning_numbers.specs.Order.{minℤ, maxℤ}
use mir.Syntax.{Width}
use Rattle.meaning_numbers.proofs.Order.{minℤ-one, maxℤ-one}
use Rattle.meaning_numbers.proofs.Prelude.{◌≡◌, ◌∙◌, refl, ⊎_elim, SFits, to_z, of_z, to_z-of_z, Bool, true, false, cond, ℕ, ℤ, pos, ◌-ℤ◌, nat_abs, ◌<ℤ◌, ◌≤ℤ◌, lt_z, lt_z-true, lt_z-false, z-sub, z-abs, zarith, ≤ℤ-antisym}

-- by the tests y < x, which the library makes, and x < y
same : (x y : ℤ) (a b : Bool) → lt_z y x ≡ a → lt_z x y ≡ b → (cond a y x ≡ cond b x y) × (cond a x y ≡ cond b y x)
same x y true true e f = let h : y <ℤ x = lt_z-true e in let k : x <ℤ y = lt_z-true f in absurd (omega zarith)
same x y true false e f = (refl, refl)
same x y false true e f = (refl, refl)
same x y false false e f = let h : x ≤ℤ y = lt_z-false e in let k : y ≤ℤ x = lt_z-false f in (≤ℤ-antisym h k, ≤ℤ-antisym k h)

pub min-same : (x y : ℤ) → int_min x y ≡ minℤ x y
unfolding minℤ
min-same x y = (same x y (lt_z y x) (lt_z x y) refl refl).0

pub max-same : (x y : ℤ) → int_max x y ≡ maxℤ x y
unfolding maxℤ
max-same x y = (same x y (lt_z y x) (lt_z x y) refl refl).1

pub gap-same : (a b : ℕ) → abs_diff a b ≡ nat_abs (pos a -ℤ pos b)
gap-same a b = omega (zarith, z-sub (pos a) (pos b), z-abs (pos a -ℤ pos b))

-- the same of numbers that fit, as the machine reads them
module _ (w : Width) {x y r : ℤ} (f : SFits w x) (g : SFits w y) where
  pub min-back : r ≡ int_min (to_z w (of_z w x)) (to_z w (of_z w y)) → to_z w (of_z w r) ≡ minℤ x y
  min-back e =
      let m : r ≡ minℤ x y = e ∙ rw (to_z-of_z w x f, to_z-of_z w y g) (min-same x y) in
      rw m (⊎_elim (λ q. rw q (to_z-of_z w x f)) (λ q. rw q (to_z-of_z w y g)) (minℤ-one x y))

  pub max-back : r ≡ int_max (to_z w (of_z w x)) (to_z w (of_z w y)) → to_z w (of_z w r) ≡ maxℤ x y
  max-back e =
      let m : r ≡ maxℤ x y = e ∙ rw (to_z-of_z w x f, to_z-of_z w y g) (max-same x y) in
      rw m (⊎_elim (λ q. rw q (to_z-of_z w y g)) (λ q. rw q (to_z-of_z w x f)) (maxℤ-one x y))
