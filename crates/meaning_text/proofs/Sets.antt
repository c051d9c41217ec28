-- Two lists set into a buffer one after the other are set as one.
use Rattle.meaning_numbers.proofs.Prelude.{◌≡◌, List, [], ◌∷◌, ◌++◌, ℕ, suc, ◌+◌, arith, length, sets}

pub sets-append : {A : Type 0} (l m old : List A) (i : ℕ) → sets old i (l ++ m) ≡ sets (sets old i l) (i + length l) m
sets-append [] m old i = let e : i + 0 ≡ i = omega arith in rw e
sets-append (b ∷ l) m old i = let e : i + suc (length l) ≡ suc i + length l = omega arith in rw e (sets-append l m _ (suc i))
