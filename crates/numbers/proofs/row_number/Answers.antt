-- `row_number`: of a negative sum z the number -1 - z is not negative, and its quotient is -1 less the row's number.
use Rattle.meaning_numbers.proofs.Prelude.{◌≡◌, sym, ◌<◌, div-le_self, ℤ, pos, negsuc, ◌-ℤ◌, nat_abs, w32, to_z, of_z, z-sub, zmach32, z-abs, z-cast32}
use mir.Val.{SFits}
use Rattle.numbers.proofs as own
use own.{Back.z-fits32, Row.row_up, Row.row-down}
use Rattle.numbers.proofs.row_number.Goals as goal

-- the sum, and -1 less it, as the machine reads them
abbrev z : ℤ → ℤ
z x = to_z w32 (of_z w32 x)

abbrev y : ℤ → ℤ
y x = z (negsuc 0 -ℤ z x)

module _ (c : goal.After-quotient-k) where
  fits : SFits w32 (negsuc 0 -ℤ z c.args.sum)
  fits = omega (zmach32, z-sub (negsuc 0) (z c.args.sum), z-fits32 c.ranges.sum)

  same : c.args.sum ≡ negsuc (nat_abs (y c.args.sum))
  same = let f = fits in omega (zmach32, z-sub (negsuc 0) (z c.args.sum), z-abs (y c.args.sum))

  small : c.quotient-k.result < 2147483648
  small =
      let f = fits in
      omega (zmach32, z-sub (negsuc 0) (z c.args.sum), z-abs (y c.args.sum), z-fits32 c.ranges.sum, c.quotient-k.ensures, div-le_self (nat_abs (y c.args.sum)) c.args.width)

pub returns-then-sum-lt0 : goal.returns-then-sum-lt0
returns-then-sum-lt0 c =
    let k = c.quotient-k.result in
    let f : SFits w32 (negsuc 0 -ℤ to_z w32 k) = omega (zmach32, z-sub (negsuc 0) (to_z w32 k), z-cast32 k (small c), small c) in
    rw (row-down c.args.width (same c), sym c.quotient-k.ensures)
    (omega (zmach32, z-sub (negsuc 0) (to_z w32 c.quotient-k.result), z-cast32 c.quotient-k.result (small c)))

module _ (c : goal.After-quotient) where
  up_same : c.args.sum ≡ pos (nat_abs (z c.args.sum))
  up_same = omega (zmach32, z-abs (z c.args.sum))

  up_small : c.quotient.result < 2147483648
  up_small = omega (zmach32, z-abs (z c.args.sum), z-fits32 c.ranges.sum, div-le_self (nat_abs (z c.args.sum)) c.args.width)

pub returns : goal.returns
returns c =
    rw (row_up _ (up_same c), sym c.quotient.ensures) (omega (zmach32, z-cast32 _ (up_small c)))
