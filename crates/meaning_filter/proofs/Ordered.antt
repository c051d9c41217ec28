-- A list put in order has the list's entries (`order-mem`, `mem-order`), each as often (`order-often`), and is in order where no entry stands twice (`order-ordered`); nothing else is both (`order-only`).
-- Its beginning is the first k (`first-is`), and nothing else is (`first-only`).
use Rattle.meaning_numbers.specs.Place.{keep}
use Rattle.meaning_numbers.proofs.Prelude.{◌≡◌, refl, sym, ap, ◌∙◌, Bool, true, false, cond, ◌⊎◌, inl, inr, List, [], ◌∷◌, ◌++◌, List-as-Memᴰ as Mem, List·Memᴰ·head as head, List·Memᴰ·tail as tail, List·Memᴰ·not-nil as not-nil, List·Memᴰ·cases-cons as cases_cons, List·Memᴰ·eq-of-singleton as only_one, Memᴰ·cast as cast, ℕ, zero, suc, ◌+◌, min, arith, dec_le, T, length, take, length-take, take_all, take-take, by-test}
use Rattle.meaning_filter.specs.Ordered.{place, placed, in_order, Total, Ordered, nothing, ahead, Different, empty, new, IsFirst}

failed : {t : Bool} → t ≡ false → T t → ⊥
failed f h = rw f at h

module _ {A : Type 0} (before : A → A → Bool) where
  -- ---- the entries

  place-mem : (x y : A) (l : List A) → Mem y (place before x l) → (y ≡ x) ⊎ Mem y l
  unfolding place
  place-mem x y [] m = inl (only_one m)
  place-mem x y (z ∷ l) m = by-test (before x z)
      (λ t. cases_cons (rw t at m))
      (λ f. elim (cases_cons (rw f at m)) [ inl e ↦ inr (head e) | inr k ↦ elim (place-mem x y l k) [ inl e ↦ inl e | inr i ↦ inr (tail i) ] ])

  mem-here : (x : A) (l : List A) → Mem x (place before x l)
  unfolding place
  mem-here x [] = head refl
  mem-here x (z ∷ l) = by-test (before x z) (λ t. rw t (head refl)) (λ f. rw f (tail (mem-here x l)))

  mem-place : (x : A) {y : A} {l : List A} → Mem y l → Mem y (place before x l)
  unfolding place
  mem-place x (head {x = z} e) = by-test (before x z) (λ t. rw t (tail (head e))) (λ f. rw f (head e))
  mem-place x (tail {x = z} m) = by-test (before x z) (λ t. rw t (tail (tail m))) (λ f. rw f (tail (mem-place x m)))

  placed-mem : (y : A) (done l : List A) → Mem y (placed before done l) → Mem y done ⊎ Mem y l
  unfolding placed
  placed-mem y done [] m = inl m
  placed-mem y done (x ∷ l) m = elim (placed-mem y (place before x done) l m) [
    | inl k ↦ elim (place-mem x y done k) [ inl e ↦ inr (head e) | inr i ↦ inl i ]
    | inr k ↦ inr (tail k)
  ]

  mem-done : {y : A} (done l : List A) → Mem y done → Mem y (placed before done l)
  unfolding placed
  mem-done done [] m = m
  mem-done done (x ∷ l) m = mem-done (place before x done) l (mem-place x m)

  mem-placed : {y : A} (done : List A) {l : List A} → Mem y l → Mem y (placed before done l)
  unfolding placed
  mem-placed done (head {x = x} {xs = l} e) = mem-done (place before x done) l (cast e (mem-here x done))
  mem-placed done (tail {x = x} m) = mem-placed (place before x done) m

  -- it has the entries of the list
  pub order-mem : {y : A} (l : List A) → Mem y (in_order before l) → Mem y l
  order-mem {y} l m = elim (placed-mem y [] l m) [ inl k ↦ absurd (not-nil k) | inr k ↦ k ]

  pub mem-order : {y : A} {l : List A} → Mem y l → Mem y (in_order before l)
  mem-order m = mem-placed [] m

  -- ---- each as often

  place-often : (p : A → Bool) (x : A) (l : List A) → length (keep p (place before x l)) ≡ length (keep p (x ∷ l))
  unfolding place keep
  place-often p x [] = refl
  place-often p x (z ∷ l) = by-test (before x z) (λ t. rw t refl) (λ f. rw f (swapped (p z) (p x) (place-often p x l)))
    where
      swapped : (a b : Bool) → length (keep p (place before x l)) ≡ length (cond b (x ∷ keep p l) (keep p l))
          → length (cond a (z ∷ keep p (place before x l)) (keep p (place before x l))) ≡ length (cond b (x ∷ cond a (z ∷ keep p l) (keep p l)) (cond a (z ∷ keep p l) (keep p l)))
      swapped true true h = ap suc h
      swapped true false h = ap suc h
      swapped false true h = h
      swapped false false h = h

  placed-often : (p : A → Bool) (done l : List A) → length (keep p (placed before done l)) ≡ length (keep p done) + length (keep p l)
  unfolding placed keep
  placed-often p done [] = omega arith
  placed-often p done (x ∷ l) = placed-often p (place before x done) l ∙ rw (place-often p x done) (counted (p x))
    where
      counted : (t : Bool) → length (cond t (x ∷ keep p done) (keep p done)) + length (keep p l) ≡ length (keep p done) + length (cond t (x ∷ keep p l) (keep p l))
      counted true = omega arith
      counted false = refl

  -- as many entries pass any test
  pub order-often : (p : A → Bool) (l : List A) → length (keep p (in_order before l)) ≡ length (keep p l)
  unfolding keep
  order-often p l = placed-often p [] l ∙ omega arith

  keep_all : (l : List A) → keep (λ (x : A). true) l ≡ l
  unfolding keep
  keep_all [] = refl
  keep_all (x ∷ l) = ap (λ (m : List A). x ∷ m) (keep_all l)

  pub order-length : (l : List A) → length (in_order before l) ≡ length l
  order-length l = ap length (sym (keep_all (in_order before l))) ∙ order-often (λ (x : A). true) l ∙ ap length (keep_all l)

  -- ---- one entry more

  placed_on : (a l m : List A) → placed before a (l ++ m) ≡ placed before (placed before a l) m
  unfolding placed
  placed_on a [] m = refl
  placed_on a (x ∷ l) m = placed_on (place before x a) l m

  order-more : (l : List A) (x : A) → in_order before (l ++ (x ∷ [])) ≡ place before x (in_order before l)
  unfolding placed
  order-more l x = placed_on [] l (x ∷ [])

  -- what lies past the first k matters to none of the first k
  place-cut : (k : ℕ) (x : A) (l : List A) → take k (place before x l) ≡ take k (place before x (take k l))
  unfolding place
  place-cut zero x l = refl
  place-cut (suc k) x [] = refl
  place-cut (suc zero) x (y ∷ l) = by-test (before x y) (λ t. rw t refl) (λ f. rw f refl)
  place-cut (suc (suc k)) x (y ∷ l) = by-test (before x y)
      (λ t. rw t (ap (λ (m : List A). x ∷ y ∷ m) (sym (take-take k (suc k) l (omega arith)))))
      (λ f. rw f (ap (λ (m : List A). y ∷ m) (place-cut (suc k) x l)))

  pub first_more : (k : ℕ) (l : List A) (x : A) → take k (in_order before (l ++ (x ∷ []))) ≡ take k (place before x (take k (in_order before l)))
  first_more k l x = ap (take k) (order-more l x) ∙ place-cut k x (in_order before l)

-- ---- in order

-- of an entry and all of a list
both_of : {A : Type 0} {P : A → Type 0} {x : A} {l : List A} → P x → ((y : A) → Mem y l → P y) → (y : A) → Mem y (x ∷ l) → P y
both_of p h y (head e) = rw e p
both_of p h y (tail m) = h y m

-- an entry that is not the first is behind it
past : {A : Type 0} {x y : A} {l : List A} → (y ≡ x → ⊥) → Mem y (x ∷ l) → Mem y l
past n (head e) = absurd (n e)
past n (tail m) = m

module _ {A : Type 0} {before : A → A → Bool} (total : Total before) where
  place-ordered : (x : A) {l : List A} → Ordered before l → (Mem x l → ⊥) → Ordered before (place before x l)
  unfolding place
  place-ordered x nothing other = ahead (λ y m. absurd (not-nil m)) nothing
  place-ordered x (ahead {x = z} {l = l} a o) other = by-test (before x z)
      (λ t. let b : T (before x z) = rw t tt in rw t (ahead (both_of b (λ y m. total.on x z y b (a y m))) (ahead a o)))
      (λ f.
      let b : T (before z x) = by-test (before z x) (λ t. rw t tt) (λ g. absurd (other (head (total.told x z (failed f) (failed g))))) in
      rw f (ahead (λ y m. either b (a y) (place-mem before x y l m)) (place-ordered x o (λ k. other (tail k)))))
    where
      either : T (before z x) → {y : A} → (Mem y l → T (before z y)) → (y ≡ x) ⊎ Mem y l → T (before z y)
      either b h (inl e) = rw e b
      either b h (inr m) = h m

  placed-ordered : (done l : List A) → Ordered before done → Different l → ((y : A) → Mem y done → Mem y l → ⊥) → Ordered before (placed before done l)
  unfolding placed
  placed-ordered done l o empty other = o
  placed-ordered done l o (new {x = x} {l = m} n d) other =
      placed-ordered (place before x done) m (place-ordered x o (λ i. other x i (head refl))) d
      (λ y i k. elim (place-mem before x y done i) [ inl e ↦ n (cast (sym e) k) | inr j ↦ other y j (tail k) ])

  pub order-ordered : {l : List A} → Different l → Ordered before (in_order before l)
  order-ordered {l} d = placed-ordered [] l nothing d (λ y m k. not-nil m)

  -- ---- the only one

  other : {x y : A} → T (before x y) → y ≡ x → ⊥
  other {x} t e = total.never x (rw e at t)

  same_first : {x y : A} {r s : List A} → ((z : A) → Mem z r → T (before x z)) → ((z : A) → Mem z s → T (before y z)) → Mem x (y ∷ s) → ((Mem y (x ∷ r) → ⊥) → T (before x y)) → x ≡ y
  same_first {x} {y} a b of least =
      let later : T (before x y) → ⊥ = λ t. total.never x (total.on x y x t (b x (past (λ q. other t (sym q)) of))) in
      let sooner : T (before y x) → ⊥ = λ t. later (least (λ m. total.never x (total.on x y x (a y (past (λ q. other t (sym q)) m)) t))) in
      total.told x y later sooner

  -- entries in order, of a list in order, such that what is left out comes after them, are its beginning
  beginning : {r s : List A} → Ordered before r → Ordered before s → ((x : A) → Mem x r → Mem x s) → ((x y : A) → Mem x r → Mem y s → (Mem y r → ⊥) → T (before x y)) → r ≡ take (length r) s
  beginning nothing o of least = refl
  beginning (ahead {x = x} a p) nothing of least = absurd (not-nil (of x (head refl)))
  beginning (ahead {x = x} {l = r} a p) (ahead {x = y} {l = s} b o) of least =
      let e : x ≡ y = same_first a b (of x (head refl)) (least x y (head refl) (head refl)) in
      let rest : r ≡ take (length r) s = beginning p o
      (λ z m. past (λ q. other (a z m) (q ∙ sym e)) (of z (tail m)))
      (λ z w m k n. least z w (tail m) (tail k) (λ i. n (past (λ q. other (b w k) (q ∙ e)) i))) in
      cc (e, rest)

  pub order-only : {l r : List A} → Different l → Ordered before r → ((x : A) → Mem x r → Mem x l) → ((x : A) → Mem x l → Mem x r) → r ≡ in_order before l
  order-only {l} {r} d o of all =
      let s = in_order before l in
      let q = order-ordered d in
      let there : r ≡ take (length r) s = beginning o q (λ x m. mem-order before (of x m)) (λ x y m k n. absurd (n (all y (order-mem before l k)))) in
      let back : s ≡ take (length s) r = beginning q o (λ x m. all x (order-mem before l m)) (λ x y m k n. absurd (n (mem-order before (of y k)))) in
      there ∙ take_all (length r) s (omega (arith, ap length back, length-take (length s) r))

  -- ---- its beginning

  taken-mem : (k : ℕ) {x : A} (l : List A) → Mem x (take k l) → Mem x l
  taken-mem zero l m = absurd (not-nil m)
  taken-mem (suc k) [] m = absurd (not-nil m)
  taken-mem (suc k) (y ∷ l) m = elim (cases_cons m) [ inl e ↦ head e | inr i ↦ tail (taken-mem k l i) ]

  taken-ordered : (k : ℕ) {l : List A} → Ordered before l → Ordered before (take k l)
  taken-ordered zero o = nothing
  taken-ordered (suc k) nothing = nothing
  taken-ordered (suc k) (ahead {l = l} a o) = ahead (λ y m. a y (taken-mem k l m)) (taken-ordered k o)

  taken-least : (k : ℕ) {l : List A} → Ordered before l → (x y : A) → Mem x (take k l) → Mem y l → (Mem y (take k l) → ⊥) → T (before x y)
  taken-least zero o x y m i n = absurd (not-nil m)
  taken-least (suc k) nothing x y m i n = absurd (not-nil m)
  taken-least (suc k) (ahead {x = z} {l = l} a o) x y m i n =
      let behind : Mem y l = past (λ e. n (head e)) i in
      elim (cases_cons m) [ inl e ↦ rw e (a y behind) | inr j ↦ taken-least k o x y j behind (λ h. n (tail h)) ]

  pub first-only : (k : ℕ) {l r : List A} → Different l → IsFirst before k l r → r ≡ take k (in_order before l)
  first-only k {l} {r} d f =
      let s = in_order before l in
      let there : r ≡ take (length r) s = beginning (f.ordered) (order-ordered d) (λ x m. mem-order before (f.of x m)) (λ x y m i n. f.least x y m (order-mem before l i) n) in
      there ∙ rw (f.many, ← (order-length before l)) (sym (to-length k s))
    where
      to-length : (k : ℕ) (s : List A) → take k s ≡ take (min k (length s)) s
      to-length k s = elim (dec_le k (length s)) [
        | yes h ↦ let e : min k (length s) ≡ k = omega arith in rw e
        | no h ↦ let e : min k (length s) ≡ length s = omega arith in rw e (take_all k s (omega arith) ∙ sym (take_all (length s) s (omega arith)))
      ]

  pub first-is : (k : ℕ) {l : List A} → Different l → IsFirst before k l (take k (in_order before l))
  first-is k {l} d =
      let o = order-ordered d in
      record {
        many = length-take k (in_order before l) ∙ ap (min k) (order-length before l);
        of = λ x m. order-mem before l (taken-mem k (in_order before l) m);
        ordered = taken-ordered k o;
        least = λ x y m i n. taken-least k o x y m (mem-order before i) n;
      }
