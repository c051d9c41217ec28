-- Laws of specs/Raised.
use Rattle.meaning_numbers.proofs.Prelude.{ℤ, Rep, zarith}
use Rattle.meaning_curves.proofs.Values.{InLimits}
use Rattle.numbers.specs.Raised.{raised}

pub raised_is : {x : ℤ} → InLimits x → Rep x (raised x) 10000
raised_is {x} h = omega zarith
