-- What is kept: the entries that are in the list and pass (`kept-mem`, `mem-kept`). Where each number below k + n that passes p passes c, keeping by c first changes nothing (`keep-twice`).
use Rattle.meaning_numbers.specs.Place.{keep, numbers_from}
use Rattle.meaning_numbers.proofs.Tests.{is_true, by-test}
use Rattle.meaning_numbers.proofs.Prelude.{ℕ, zero, suc, ◌+◌, ◌<◌, T, Bool, true, false, cond, List, [], ◌∷◌, List-as-Memᴰ as Mem, List·Memᴰ·head as here, List·Memᴰ·tail as there, List·Memᴰ·not-nil as not-nil, List·Memᴰ·cases-cons as cases, ⊎_elim, ◌≡◌, refl, sym, subst, arith}

-- one entry x more, where p answers y of it and c answers t
keep_one : {A : Type 0} (p : A → Bool) (y t : Bool) (x : A) (l r : List A) → p x ≡ y → (T y → T t) → keep p l ≡ r → keep p (cond t (x ∷ l) l) ≡ cond y (x ∷ r) r
unfolding keep
keep_one p y true x l r e f h = rw (e, h)
keep_one p true false x l r e f h = absurd (f tt)
keep_one p false false x l r e f h = h

pub keep-twice : (p c : ℕ → Bool) (k n : ℕ) → ((j : ℕ) → j < k + n → T (p j) → T (c j)) → keep p (keep c (numbers_from k n)) ≡ keep p (numbers_from k n)
unfolding keep numbers_from
keep-twice p c k zero f = refl
keep-twice p c k (suc n) f =
    keep_one p (p k) (c k) k _ _ refl (f k (omega arith)) (keep-twice p c (suc k) n (λ j l. f j (omega arith)))

-- ---- members

pub kept-mem : {A : Type 0} (p : A → Bool) {x : A} (l : List A) → Mem x (keep p l) → Mem x l × T (p x)
unfolding keep
kept-mem p [] m = absurd (not-nil m)
kept-mem {A} p {x} (y ∷ l) m = by-test (p y)
    (λ t. ⊎_elim (λ e. (here e, rw e (subst T (sym t) tt))) (λ n. let h = kept-mem p l n in (there h.0, h.1)) (cases (rw t at m)))
    (λ f. let h = kept-mem p l (rw f at m) in (there h.0, h.1))

pub mem-kept : {A : Type 0} (p : A → Bool) {x : A} {l : List A} → Mem x l → T (p x) → Mem x (keep p l)
unfolding keep
mem-kept {A} p {x} (here {xs = l} e) h = rw (is_true (p _) (rw e at h)) (here e)
mem-kept p (there {x = y} {xs = l} m) h = by-test (p y) (λ t. rw t (there (mem-kept p m h))) (λ f. rw f (mem-kept p m h))
