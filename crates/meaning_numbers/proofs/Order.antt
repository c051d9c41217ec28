-- The lesser and the greater of two whole numbers are at most, and at least, both of them, and one of them.
use Rattle.meaning_numbers.specs.Order.{minℤ, maxℤ}
use Rattle.meaning_numbers.proofs.Prelude.{ℤ, ◌≤ℤ◌, ◌<ℤ◌, lt_z, Bool, true, false, cond, ◌⊎◌, inl, inr, ◌≡◌, refl}
use Rattle.meaning_numbers.proofs.{Rep.zarith, Machine.lt_z-true, Machine.lt_z-false}

pick : {x y : ℤ} (t : Bool) → (t ≡ true → x <ℤ y) → (t ≡ false → y ≤ℤ x) → ((cond t x y ≤ℤ x) × (cond t x y ≤ℤ y)) × ((x ≤ℤ cond t y x) × (y ≤ℤ cond t y x))
pick {x} {y} true f g = let h = f refl in ((omega zarith, omega zarith), (omega zarith, omega zarith))
pick {x} {y} false f g = let h = g refl in ((omega zarith, omega zarith), (omega zarith, omega zarith))

pub minℤ-le : (x y : ℤ) → (minℤ x y ≤ℤ x) × (minℤ x y ≤ℤ y)
unfolding minℤ
minℤ-le x y = (pick (lt_z x y) lt_z-true lt_z-false).0

pub maxℤ-le : (x y : ℤ) → (x ≤ℤ maxℤ x y) × (y ≤ℤ maxℤ x y)
unfolding maxℤ
maxℤ-le x y = (pick (lt_z x y) lt_z-true lt_z-false).1

either : (t : Bool) (x y : ℤ) → (cond t x y ≡ x) ⊎ (cond t x y ≡ y)
either true x y = inl refl
either false x y = inr refl

pub minℤ-one : (x y : ℤ) → (minℤ x y ≡ x) ⊎ (minℤ x y ≡ y)
unfolding minℤ
minℤ-one x y = either (lt_z x y) x y

pub maxℤ-one : (x y : ℤ) → (maxℤ x y ≡ y) ⊎ (maxℤ x y ≡ x)
unfolding maxℤ
maxℤ-one x y = either (lt_z x y) y x
