-- Members of lists. Where some entry passes there is one in the list that does (`any_found`), and back (`any-mem`); every entry is so (`All`); the members of a mapped list and of the numbers from k on.
use Rattle.meaning_numbers.specs.Place.{place_from, any, numbers_from}
use Rattle.meaning_numbers.proofs.Tests.{by-test, clash}
use Rattle.meaning_numbers.proofs.Prelude.{ℕ, zero, suc, ◌+◌, ◌<◌, ◌≤◌, T, length, get_or, Bool, true, false, ◌&&◌, ◌||◌, false≢true, List, [], ◌∷◌, map, List-as-Memᴰ as Mem, List·Memᴰ·head as here, List·Memᴰ·tail as there, List·Memᴰ·not-nil as not-nil, List·Memᴰ·cases-cons as cases, ⊎_elim, None, ◌≡◌, refl, sym, ap, subst, dec_le, arith}

-- every entry passes the test
unfoldable pub every : {A : Type 0} → (A → Bool) → List A → Bool
every p [] = true
every p (x ∷ l) = p x && every p l

module _ {A : Type 0} where
  pub record Found (p : A → Bool) (l : List A) : Type 0 where
    pub entry : A
    pub is : Mem entry l
    pub passes : p entry ≡ true

  pub any-mem : (p : A → Bool) {x : A} {l : List A} → Mem x l → p x ≡ true → any p l ≡ true
  unfolding any
  any-mem p (here e) h = rw (← e, h)
  any-mem p (there {x = y} {xs = l} m) h = by-test (p y) (λ t. rw t) (λ f. rw f (any-mem p m h))

  pub any_found : (p : A → Bool) (l : List A) → any p l ≡ true → Found p l
  unfolding any
  any_found p [] e = absurd (false≢true e)
  any_found p (x ∷ l) e = by-test (p x)
      (λ t. record { entry = x; is = here refl; passes = t })
      (λ f. let r = any_found p l (rw f at e) in record { entry = r.entry; is = there r.is; passes = r.passes })

  pub any_none : (p : A → Bool) (l : List A) → ((x : A) → Mem x l → p x ≡ false) → any p l ≡ false
  any_none p l h = by-test (any p l) (λ t. let r = any_found p l t in clash r.passes (h r.entry r.is)) (λ f. f)

  pub none_any : (p : A → Bool) {x : A} {l : List A} → any p l ≡ false → Mem x l → p x ≡ false
  none_any p {x} f m = by-test (p x) (λ t. clash (any-mem p m t) f) (λ g. g)

  pub any-cong : (p q : A → Bool) (l : List A) → ((x : A) → Mem x l → p x ≡ q x) → any p l ≡ any q l
  unfolding any
  any-cong p q [] h = refl
  any-cong p q (x ∷ l) h = rw (h x (here refl), any-cong p q l (λ y m. h y (there m)))

  -- an entry stands at its place
  pub mem-at : (o : A) (l : List A) (k : ℕ) → k < length l → Mem (get_or l k o) l
  mem-at o [] k h = absurd (omega arith)
  mem-at o (x ∷ l) zero h = here refl
  mem-at o (x ∷ l) (suc k) h = there (mem-at o l k (omega arith))

  -- where no entry passes, none is placed
  pub place_none : (k : ℕ) (p : A → Bool) (l : List A) → place_from k p l ≡ None → (x : A) → Mem x l → p x ≡ false
  unfolding place_from
  place_none k p [] e x m = absurd (not-nil m)
  place_none k p (y ∷ l) e x m = by-test (p y) (λ t. let z : ◌≡◌ {A = ℕ} 0 1 = cc (sym (rw t at e)) in absurd (omega arith))
      (λ f. ⊎_elim (λ q. rw q f) (λ n. place_none (suc k) p l (rw f at e) x n) (cases m))

-- every entry is so
unfoldable pub All : {A : Type 0} → (A → Type 0) → List A → Type 0
All P [] = Unit {0}
All P (x ∷ l) = P x × All P l

pub all-mem : {A : Type 0} (P : A → Type 0) {x : A} (l : List A) → All P l → Mem x l → P x
unfolding All
all-mem P [] a m = absurd (not-nil m)
all-mem P (y ∷ l) a m = ⊎_elim (λ e. subst P (sym e) a.0) (λ n. all-mem P l a.1 n) (cases m)

pub mem-all : {A : Type 0} (P : A → Type 0) (l : List A) → ((x : A) → Mem x l → P x) → All P l
unfolding All
mem-all P [] f = tt
mem-all P (y ∷ l) f = (f y (here refl), mem-all P l (λ x m. f x (there m)))

pub mem-map : {A B : Type 0} (f : A → B) {x : A} {l : List A} → Mem x l → Mem (f x) (map f l)
mem-map f (here e) = here (ap f e)
mem-map f (there m) = there (mem-map f m)

pub record Image {A B : Type 0} (f : A → B) (l : List A) (y : B) : Type 0 where
  pub entry : A
  pub is : Mem entry l
  pub same : y ≡ f entry

pub map-mem : {A B : Type 0} (f : A → B) {y : B} (l : List A) → Mem y (map f l) → Image f l y
map-mem f [] m = absurd (not-nil m)
map-mem f (x ∷ l) m = ⊎_elim (λ e. record { entry = x; is = here refl; same = e })
    (λ n. let r = map-mem f l n in record { entry = r.entry; is = there r.is; same = r.same }) (cases m)

pub any-map : {A B : Type 0} (p : B → Bool) (f : A → B) (l : List A) → any p (map f l) ≡ any (λ x. p (f x)) l
unfolding any
any-map p f [] = refl
any-map p f (x ∷ l) = rw (any-map p f l)

-- where each entry that passes p passes q, a list of which some entry passes p has one that passes q
or_map : (a b c d : Bool) → (T a → T c) → (T b → T d) → T (a || b) → T (c || d)
or_map a b true d f g h = tt
or_map true b false d f g h = absurd (f tt)
or_map false b false d f g h = g h

pub any-weaken : {A : Type 0} (p q : A → Bool) → ((x : A) → T (p x) → T (q x)) → (l : List A) → T (any p l) → T (any q l)
unfolding any
any-weaken p q f [] h = h
any-weaken p q f (x ∷ l) h = or_map (p x) (any p l) (q x) (any q l) (f x) (any-weaken p q f l) h

-- ---- the numbers from k on

pub mem-numbers : (k n j : ℕ) → k ≤ j → j < k + n → Mem j (numbers_from k n)
unfolding numbers_from
mem-numbers k zero j a b = absurd (omega arith)
mem-numbers k (suc n) j a b = elim (dec_le (suc k) j) [ yes h ↦ there (mem-numbers (suc k) n j h (omega arith)) | no f ↦ let e : j ≡ k = omega arith in here e ]

pub numbers-mem : (k n j : ℕ) → Mem j (numbers_from k n) → (k ≤ j) × (j < k + n)
unfolding numbers_from
numbers-mem k zero j m = absurd (not-nil m)
numbers-mem k (suc n) j m = ⊎_elim (λ e. (omega arith, omega arith)) (λ t. let h = numbers-mem (suc k) n j t in (omega arith, omega arith)) (cases m)
