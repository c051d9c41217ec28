-- Small cases of the definitions, in one table that one proof covers.
use Rattle.meaning_numbers.specs.{Root.root, Quotient.floorℤ, Quotient.ceilℤ, Quotient.multiple, Order.within}
use Rattle.meaning_numbers.proofs.Prelude.{T, eqb, pos, negsuc, Bool, not, List, [], ◌∷◌}
use Rattle.meaning_numbers.proofs.{Table.holds, Table.sameℤ, Open.open_numbers}

cases : List Bool
cases =
    eqb (root 0) 0 ∷ eqb (root 8) 2 ∷ eqb (root 9) 3 ∷ eqb (root 256000000000000) 16000000
    ∷ sameℤ (floorℤ (negsuc 0) 2) (negsuc 0) ∷ sameℤ (floorℤ (negsuc 1) 2) (negsuc 0) ∷ sameℤ (floorℤ (negsuc 2) 2) (negsuc 1) ∷ sameℤ (floorℤ (pos 7) 2) (pos 3)
    ∷ sameℤ (ceilℤ (pos 7) 2) (pos 4) ∷ sameℤ (ceilℤ (negsuc 6) 2) (negsuc 2) ∷ sameℤ (ceilℤ (pos 6) 2) (pos 3)
    ∷ multiple 3 (negsuc 5) ∷ multiple 3 (pos 0) ∷ not (multiple 3 (pos 4))
    ∷ within (negsuc 0) (pos 2) (pos 2) ∷ not (within (negsuc 0) (pos 2) (pos 3)) ∷ not (within (negsuc 0) (pos 2) (negsuc 1))
    ∷ []

all : T (holds cases)
unfolding open_numbers cases
all = tt
