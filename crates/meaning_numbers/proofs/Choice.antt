-- Which of two whole numbers is the lesser and which the greater, told by the flag of the test x < y, as code that branches on it has it.
use Rattle.meaning_numbers.specs.Order.{minℤ, maxℤ}
use Rattle.meaning_numbers.proofs.Prelude.{ℤ, lt_z, true, false, ◌≡◌}

pub min-yes : (x y : ℤ) → lt_z x y ≡ true → minℤ x y ≡ x
unfolding minℤ
min-yes x y e = rw e

pub min-no : (x y : ℤ) → lt_z x y ≡ false → minℤ x y ≡ y
unfolding minℤ
min-no x y e = rw e

pub max-yes : (x y : ℤ) → lt_z x y ≡ true → maxℤ x y ≡ y
unfolding maxℤ
max-yes x y e = rw e

pub max-no : (x y : ℤ) → lt_z x y ≡ false → maxℤ x y ≡ x
unfolding maxℤ
max-no x y e = rw e
