-- Laws of specs/Members.
use Rattle.meaning_numbers.specs.Place.{keep, numbers_from}
use Rattle.meaning_numbers.proofs.Prelude.{◌≡◌, refl, sym, ap, ◌∙◌, Bool, true, false, cond, List, [], ◌∷◌, ◌++◌, append-nil, append_assoc, ℕ, zero, suc, ◌+◌, ◌-◌, ◌≤◌, arith, zero-add, length, by-test}
use Rattle.meaning_rows.specs.Runs.{reach, take_in, runs}
use Rattle.meaning_rows.proofs.Runs.{Apart, Next, runs-apart, runs-next}
use Rattle.check_list.specs.Members.{between, members}

-- ---- numbers, one more at the end

pub numbers-end : (k n : ℕ) → numbers_from k (suc n) ≡ numbers_from k n ++ ((k + n) ∷ [])
unfolding numbers_from
numbers-end k zero = let e : k + 0 ≡ k = omega arith in rw e
numbers-end k (suc n) = let e : k + suc n ≡ suc k + n = omega arith in rw e (rw (numbers-end (suc k) n))

pub length-numbers : (k n : ℕ) → length (numbers_from k n) ≡ n
unfolding numbers_from
length-numbers k zero = refl
length-numbers k (suc n) = ap suc (length-numbers (suc k) n)

-- ---- what is kept of two lists, one after the other

pub keep_append : {A : Type 0} (p : A → Bool) (l m : List A) → keep p (l ++ m) ≡ keep p l ++ keep p m
unfolding keep
keep_append p [] m = refl
keep_append p (x ∷ l) m = by-test (p x) (λ t. rw (t, keep_append p l m)) (λ t. rw (t, keep_append p l m))

pub keep-length : {A : Type 0} (p : A → Bool) (l : List A) → length (keep p l) ≤ length l
unfolding keep
keep-length p [] = omega arith
keep-length p (x ∷ l) = by-test (p x) (λ t. rw t (omega (arith, keep-length p l))) (λ t. rw t (omega (arith, keep-length p l)))

-- ---- members

pub members-append : (l m : List (ℕ × ℕ)) → members (l ++ m) ≡ members l ++ members m
unfolding members
members-append [] m = refl
members-append (x ∷ l) m = rw (members-append l m) (sym (append_assoc (between x) (members l) (members m)))

point : (n : ℕ) → between (n, n) ≡ n ∷ []
unfolding numbers_from
point n = let e : n + 1 - n ≡ 1 = omega arith in rw e

-- a run that reaches on
longer : (l r n : ℕ) → l ≤ r → r + 1 ≡ n → between (l, n) ≡ between (l, r) ++ (n ∷ [])
longer l r n h e =
    let f : n + 1 - l ≡ suc (r + 1 - l) = omega arith in
    let g : l + (r + 1 - l) ≡ n = omega arith in
    rw f (numbers-end l _ ∙ rw g)

members-reach : (n a : ℕ) (l : List (ℕ × ℕ)) → Apart n a l → Next true l n → members (reach l n) ≡ members l ++ (n ∷ [])
unfolding members reach Apart Next
members-reach n a [] p h = absurd h
members-reach n a (x ∷ []) p h = rw (longer x.0 x.1 n p.1 h, append-nil _, append-nil _) refl
members-reach n a (x ∷ y ∷ l) p h = rw (members-reach n (x.1 + 2) (y ∷ l) p.3 h) (sym (append_assoc (between x) (members (y ∷ l)) (n ∷ [])))

members-take_in : (a b : Bool) (l : List (ℕ × ℕ)) (n : ℕ) → Apart n 0 l → Next b l n → members (take_in a b l n) ≡ members l ++ cond a (n ∷ []) []
unfolding take_in members
members-take_in false b l n p h = sym (append-nil _)
members-take_in true false l n p h = members-append l ((n, n) ∷ []) ∙ rw (append-nil _ ∙ point n)
members-take_in true true l n p h = members-reach n 0 l p h

kept-one : (p : ℕ → Bool) (n : ℕ) → keep p (n ∷ []) ≡ cond (p n) (n ∷ []) []
unfolding keep
kept-one p n = refl

pub kept-members : (p : ℕ → Bool) (n : ℕ) → keep p (numbers_from 0 n) ≡ members (runs p n)
unfolding keep numbers_from runs members
kept-members p zero = refl
kept-members p (suc n) =
    ap (keep p) (numbers-end 0 n) ∙ keep_append p (numbers_from 0 n) ((0 + n) ∷ []) ∙ rw (zero-add n, kept-one p n, kept-members p n)
    (sym (members-take_in (p n) _ _ n (runs-apart p n) (runs-next p n)))
