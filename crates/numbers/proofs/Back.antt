-- A value that is passed on or stored is the machine's bits read back. In the limits that is the value, so what a callee says of the bits it says of the value.
use mir.Syntax.{Width}
use Rattle.meaning_numbers.specs.Order.{minℤ, maxℤ}
use Rattle.meaning_numbers.proofs.Choice.{min-yes, min-no, max-yes, max-no}
use Rattle.meaning_numbers.proofs.Prelude.{◌≡◌, refl, sym, ◌∙◌, Bool, true, false, ◌+◌, ◌<◌, ◌≤◌, arith, ℤ, pos, negsuc, ◌+ℤ◌, ◌-ℤ◌, lt_z, w32, SFits, to_z, of_z, to_z-of_z, up, dn, z-add, z-sub, zmach32}
use Rattle.meaning_curves.specs.Straight.{cost}
use Rattle.meaning_curves.proofs.Values.{InLimits}
use Rattle.numbers.specs.Raised.{raised}

-- to be listed: the limits of a number that fits
pub z-fits32 : {z : ℤ} → SFits w32 z → (up z < 2147483648) × (dn z ≤ 2147483648)
z-fits32 {z = pos n} h = (omega arith, omega arith)
z-fits32 {z = negsuc n} h = (omega arith, omega arith)

pub in-back : {x : ℤ} → InLimits x → to_z w32 (of_z w32 x) ≡ x
in-back {x} h = to_z-of_z w32 x (omega zmach32)

pub in-arg : {x : ℤ} → InLimits x → InLimits (to_z w32 (of_z w32 x))
in-arg h = rw (in-back h) h

pub cost-back : {x y : ℤ} → InLimits x → InLimits y → cost (to_z w32 (of_z w32 x)) (to_z w32 (of_z w32 y)) ≡ cost x y
cost-back h k = rw (in-back h, in-back k) refl

pub raised-back : {x : ℤ} → InLimits x → raised (to_z w32 (of_z w32 x)) ≡ raised x
raised-back h = rw (in-back h) refl

-- the lesser and the greater of two numbers that fit, by the flag of the test on their bits
module _ (w : Width) {x y : ℤ} (f : SFits w x) (g : SFits w y) where
  less : {t : Bool} → lt_z (to_z w (of_z w x)) (to_z w (of_z w y)) ≡ t → lt_z x y ≡ t
  less e = rw (to_z-of_z w x f, to_z-of_z w y g) at e

  pub lesser-first : lt_z (to_z w (of_z w x)) (to_z w (of_z w y)) ≡ true → to_z w (of_z w x) ≡ minℤ x y
  lesser-first e = to_z-of_z w x f ∙ sym (min-yes x y (less e))

  pub lesser-second : lt_z (to_z w (of_z w x)) (to_z w (of_z w y)) ≡ false → to_z w (of_z w y) ≡ minℤ x y
  lesser-second e = to_z-of_z w y g ∙ sym (min-no x y (less e))

  pub greater-second : lt_z (to_z w (of_z w x)) (to_z w (of_z w y)) ≡ true → to_z w (of_z w y) ≡ maxℤ x y
  greater-second e = to_z-of_z w y g ∙ sym (max-yes x y (less e))

  pub greater-first : lt_z (to_z w (of_z w x)) (to_z w (of_z w y)) ≡ false → to_z w (of_z w x) ≡ maxℤ x y
  greater-first e = to_z-of_z w x f ∙ sym (max-no x y (less e))

-- a value added to a sum, or taken from it: b is the sum z as the machine reads it
module _ {b z x : ℤ} (is : b ≡ z) (above : up z ≤ dn z + 1000000000) (below : dn z ≤ up z + 1000000000) (h : InLimits x) where
  pub plus-fits : SFits w32 (b +ℤ to_z w32 (of_z w32 x))
  plus-fits = rw (is, in-back h) (omega (zmach32, z-add z x))

  pub plus-back : to_z w32 (of_z w32 (b +ℤ to_z w32 (of_z w32 x))) ≡ z +ℤ x
  plus-back = to_z-of_z w32 _ plus-fits ∙ rw (is, in-back h)

  pub minus-fits : SFits w32 (b -ℤ to_z w32 (of_z w32 x))
  minus-fits = rw (is, in-back h) (omega (zmach32, z-sub z x))

  pub minus-back : to_z w32 (of_z w32 (b -ℤ to_z w32 (of_z w32 x))) ≡ z -ℤ x
  minus-back = to_z-of_z w32 _ minus-fits ∙ rw (is, in-back h)
