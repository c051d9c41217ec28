-- Tests and what they answer: a test that passes is true (`is_true`), one that fails false (`is_false`), and `x && y` passes exactly where x and y do (`two-tests`, `both-tests`).
use lib.Dec.{T}
use mathlib.Core.Bool.{Bool, true, false, not, ◌&&◌, ◌||◌, false≢true}
use mathlib.Core.Logic.{◌⊎◌, inl, inr}
use mathlib.Core.Path.{◌≡◌, refl, sym, ◌∙◌}

pub is_true : (t : Bool) → T t → t ≡ true
is_true true h = refl
is_true false h = absurd h

pub is_false : (t : Bool) → T (not t) → t ≡ false
is_false true h = absurd h
is_false false h = refl

pub not-not : (t : Bool) → T (not (not t)) → T t
not-not true h = tt
not-not false h = absurd h

pub yes-not-not : (t : Bool) → T t → T (not (not t))
yes-not-not true h = tt
yes-not-not false h = absurd h

-- it passes or it fails
pub decided : (t : Bool) → T t ⊎ T (not t)
decided true = inl tt
decided false = inr tt

pub two-tests : (x y : Bool) → T (x && y) → T x × T y
two-tests true y h = (tt, h)
two-tests false y h = absurd h

pub both-tests : (x y : Bool) → T x → T y → T (x && y)
both-tests true y h k = k
both-tests false y h k = absurd h

-- ---- by what a test is equal to

pub by-test {ℓ} : {X : Type ℓ} (t : Bool) → (t ≡ true → X) → (t ≡ false → X) → X
by-test true f g = f refl
by-test false f g = g refl

pub both : (a b : Bool) → (a && b) ≡ true → (a ≡ true) × (b ≡ true)
both true b e = (refl, e)
both false b e = absurd (false≢true e)

pub of-both : {a b : Bool} → a ≡ true → b ≡ true → (a && b) ≡ true
of-both p q = rw (p, q)

pub clash {ℓ} : {X : Type ℓ} {t : Bool} → t ≡ true → t ≡ false → X
clash p q = absurd (false≢true (sym q ∙ p))

-- ---- neither of two tests

pub neither : (x y : Bool) → T (not (x || y)) → T (not x) × T (not y)
neither true y h = absurd h
neither false y h = (tt, h)
