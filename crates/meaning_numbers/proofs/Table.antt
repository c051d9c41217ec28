-- Cases gathered in a table: each is a test that the checker computes. One proof that the table holds covers them all, and `each` says it of each.
use Rattle.meaning_numbers.proofs.Prelude.{ℕ, zero, suc, T, eqb, ℤ, pos, negsuc, get_or, Bool, true, false, ◌&&◌, List, [], ◌∷◌}

-- every test of the table passes
unfoldable pub holds : List Bool → Bool
holds [] = true
holds (t ∷ l) = t && holds l

rest : (t : Bool) (l : List Bool) → T (holds (t ∷ l)) → T (holds l)
unfolding holds
rest true l h = h
rest false l h = absurd h

here : (t : Bool) (l : List Bool) → T (holds (t ∷ l)) → T t
unfolding holds
here true l h = tt
here false l h = absurd h

-- where a table holds, each of its cases does
pub each : (l : List Bool) → T (holds l) → (k : ℕ) → T (get_or l k true)
each [] h k = tt
each (t ∷ l) h zero = here t l h
each (t ∷ l) h (suc k) = each l (rest t l h) k

-- ---- tests that two values are the same

-- two whole numbers are the same
unfoldable pub sameℤ : ℤ → ℤ → Bool
sameℤ (pos m) (pos n) = eqb m n
sameℤ (pos m) (negsuc n) = false
sameℤ (negsuc m) (pos n) = false
sameℤ (negsuc m) (negsuc n) = eqb m n

-- two lists are the same, entry for entry
unfoldable pub same_list : {A : Type 0} → (A → A → Bool) → List A → List A → Bool
same_list e [] [] = true
same_list e [] (y ∷ m) = false
same_list e (x ∷ l) [] = false
same_list e (x ∷ l) (y ∷ m) = e x y && same_list e l m
