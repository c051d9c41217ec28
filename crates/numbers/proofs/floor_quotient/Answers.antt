-- `floor_quotient`: of a negative z the number -1 - z is not negative, and its quotient is -1 less the floor of z's.
use Rattle.meaning_numbers.proofs.Prelude.{◌≡◌, ◌/◌, ◌<◌, ◌^◌, div-le_self, ℤ, pos, negsuc, ◌-ℤ◌, nat_abs, w64, to_z, of_z, z-sub, zmach, z-abs, z-cast, z-fits}
use mir.Val.{SFits}
use Rattle.numbers.proofs as own
use own.Row.{row_up, row-down}
use Rattle.numbers.proofs.floor_quotient.Goals as goal

-- the number, and -1 less it, as the machine reads them
abbrev z : ℤ → ℤ
z x = to_z w64 (of_z w64 x)

abbrev y : ℤ → ℤ
y x = z (negsuc 0 -ℤ z x)

module _ (c : goal.Then-z-lt0) where
  fits : SFits w64 (negsuc 0 -ℤ z c.args.z)
  fits = omega (zmach, z-sub (negsuc 0) (z c.args.z), z-fits c.ranges.z)

  same : c.args.z ≡ negsuc (nat_abs (y c.args.z))
  same = let f = fits in omega (zmach, z-sub (negsuc 0) (z c.args.z), z-abs (y c.args.z))

  small : nat_abs (y c.args.z) / c.args.d < 2 ^ 63
  small =
      let f = fits in
      omega (zmach, z-sub (negsuc 0) (z c.args.z), z-abs (y c.args.z), z-fits c.ranges.z, div-le_self (nat_abs (y c.args.z)) c.args.d)

pub returns-then-z-lt0 : goal.returns-then-z-lt0
returns-then-z-lt0 c =
    let k = nat_abs (y c.args.z) / c.args.d in
    let f : SFits w64 (negsuc 0 -ℤ to_z w64 k) = omega (zmach, z-sub (negsuc 0) (to_z w64 k), z-cast k (small c), small c) in
    rw (row-down c.args.d (same c)) (omega (zmach, z-sub (negsuc 0) (to_z w64 k), z-cast k (small c)))

module _ (c : goal.Else-z-lt0) where
  up_same : c.args.z ≡ pos (nat_abs (z c.args.z))
  up_same = omega (zmach, z-abs (z c.args.z))

  up_small : nat_abs (z c.args.z) / c.args.d < 2 ^ 63
  up_small = omega (zmach, z-abs (z c.args.z), z-fits c.ranges.z, div-le_self (nat_abs (z c.args.z)) c.args.d)

pub returns : goal.returns
returns c = rw (row_up _ (up_same c)) (omega (zmach, z-cast (nat_abs (z c.args.z) / c.args.d) (up_small c)))
