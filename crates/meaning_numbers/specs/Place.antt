-- Lists and the places in them, counted from 0.
use Rattle.std.specs.Prelude.{ℕ, zero, suc, Bool, false, cond, ◌||◌, List, [], ◌∷◌}
use Rattle.std.specs.declared.option.Option.{Option}
use Rattle.std.specs.Prelude.{None, Some}

-- the place of the first entry that passes the test, counted on from k
unfoldable pub place_from : {A : Type 0} → ℕ → (A → Bool) → List A → Option ℕ
place_from k p [] = None
place_from k p (x ∷ l) = cond (p x) (Some k) (place_from (suc k) p l)

-- the place of the first entry that passes the test
abbrev pub first_place : {A : Type 0} → (A → Bool) → List A → Option ℕ
first_place p l = place_from 0 p l

-- some entry passes the test
unfoldable pub any : {A : Type 0} → (A → Bool) → List A → Bool
any p [] = false
any p (x ∷ l) = p x || any p l

-- the entries that pass the test, in order
unfoldable pub keep : {A : Type 0} → (A → Bool) → List A → List A
keep p [] = []
keep p (x ∷ l) = cond (p x) (x ∷ keep p l) (keep p l)

-- the n numbers from k on
unfoldable pub numbers_from : ℕ → ℕ → List ℕ
numbers_from k zero = []
numbers_from k (suc n) = k ∷ numbers_from (suc k) n
