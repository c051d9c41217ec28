-- `hold`. By the sign of the number, and whether it fits.
use Rattle.std.specs.Prelude.{Ok, Err}
use Rattle.std.specs.declared.result.Result.{Result}
use Rattle.std.specs.Result.{OkIff, result_unwrap_or}
use Rattle.std.specs.Int.{FitsUnsignedBits}
use Rattle.meaning_numbers.proofs.Prelude.{◌≡◌, ◌∙◌, refl, ℕ, ℤ, pos, negsuc, nat_abs, ◌≤ℤ◌, ◌<ℤ◌, ◌^◌, w64, to_z-of_z, zmach, lt-lt_z, le-lt_z, dec_lt}
use Rattle.numbers.specs.Narrow.{held}
use Rattle.numbers.proofs.hold.Goals as goal

tells : {E : Type 0} (z : ℤ) (r : Result ℕ E) → OkIff r (FitsUnsignedBits 32 z) (nat_abs z) → result_unwrap_or r 4294967295 ≡ held z
unfolding held
tells (pos n) (Ok x) (h, e) =
    let p : pos 0 ≤ℤ pos n = omega zmach in
    let q : pos n ≤ℤ pos 4294967295 = omega zmach in
    rw (le-lt_z p, le-lt_z q) e
tells (pos n) (Err e) f =
    let p : pos 0 ≤ℤ pos n = omega zmach in
    let q : pos 4294967295 <ℤ pos n = elim (dec_lt n (2 ^ 32)) [ yes h ↦ absurd (f h) | no g ↦ omega zmach ] in
    rw (le-lt_z p, lt-lt_z q)
tells (negsuc n) (Ok x) (h, e) = absurd h
tells (negsuc n) (Err e) f = refl

pub returns : goal.returns
returns c = c.unwrap_or.ensures ∙ tells c.args.z c.try_from.result (rw (to_z-of_z w64 c.args.z c.ranges.z) at c.try_from.ensures)
