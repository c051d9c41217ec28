-- What a value lies outside a range, of values that are passed on: the machine's bits read back are the values.
use Rattle.meaning_numbers.proofs.Prelude.{◌≡◌, refl, ℤ, w32, to_z, of_z}
use Rattle.meaning_curves.proofs.Values.{InLimits}
use Rattle.meaning_filter.proofs.Bound.{excess}
use Rattle.numbers.proofs.Back.{in-back}
pub use Rattle.meaning_filter.proofs.Bound.{apart}

pub excess-back : {l u x : ℤ} → InLimits l → InLimits u → InLimits x → excess (to_z w32 (of_z w32 l)) (to_z w32 (of_z w32 u)) (to_z w32 (of_z w32 x)) ≡ excess l u x
excess-back h k i = rw (in-back h, in-back k, in-back i) refl
