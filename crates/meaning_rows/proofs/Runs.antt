-- Runs of a set, given as a test: they have exactly its members (`runs-hold`), ascend and do not touch (`runs-apart`), and are as many as its members whose offset before is none (`runs-are`).
-- Each is an induction on the number of offsets, one offset taken in at a time.
use Rattle.meaning_numbers.specs.{Sum.bit, Sum.count, Place.any}
use Rattle.meaning_numbers.proofs.Count.{bit_or, count-le, count-mono, count_add, count-never}
use Rattle.meaning_numbers.proofs.Prelude.{◌≡◌, refl, sym, ap, ◌∙◌, Bool, true, false, not, ◌&&◌, ◌||◌, and-true, and-false, or-false, or_assoc, false≢true, List, [], ◌∷◌, ◌++◌, map, ℕ, zero, suc, ◌+◌, ◌-◌, ◌<◌, ◌≤◌, min, arith, add-one, le_step, dec_le, leb, ltb, eqb, length, length-append, leb-true, leb-false, ltb-true, ltb-false, eqb-true, eqb-false, lt-ltb, le-ltb, le-leb, lt-leb, ne_eqb, by-test, both, clash}
use Rattle.meaning_rows.specs.{Runs.before, Runs.reach, Runs.take_in, Runs.runs, Runs.run_count, Index.in_run, Build.entry, Judge.run_lengths}

-- ---- how many runs

-- j begins a run
unfoldable pub begins : (ℕ → Bool) → ℕ → Bool
begins p j = p j && not (before p j)

pub length-reach : (l : List (ℕ × ℕ)) (n : ℕ) → length (reach l n) ≡ length l
unfolding reach
length-reach [] n = refl
length-reach (x ∷ []) n = refl
length-reach (x ∷ y ∷ l) n = ap suc (length-reach (y ∷ l) n)

pub length-take_in : (a b : Bool) (l : List (ℕ × ℕ)) (n : ℕ) → length (take_in a b l n) ≡ length l + bit (a && not b)
unfolding take_in bit
length-take_in false b l n = omega arith
length-take_in true false l n = length-append l ((n, n) ∷ [])
length-take_in true true l n = omega (arith, length-reach l n)

pub runs-are : (p : ℕ → Bool) (n : ℕ) → run_count p n ≡ count (begins p) n
unfolding runs count begins
runs-are p zero = refl
runs-are p (suc n) = length-take_in (p n) _ _ n ∙ rw (runs-are p n)

pub before-cong : (p q : ℕ → Bool) (n : ℕ) → ((j : ℕ) → j < n → p j ≡ q j) → before p n ≡ before q n
unfolding before
before-cong p q zero h = refl
before-cong p q (suc n) h = h n (omega arith)

pub runs-cong : (p q : ℕ → Bool) (n : ℕ) → ((j : ℕ) → j < n → p j ≡ q j) → runs p n ≡ runs q n
unfolding runs
runs-cong p q zero h = refl
runs-cong p q (suc n) h = cc (h n (omega arith), before-cong p q n (λ j l. h j (le_step l)), runs-cong p q n (λ j l. h j (le_step l)))

low_bit : (a b : Bool) → bit (a && not b) ≤ bit a
unfolding bit
low_bit true true = omega arith
low_bit true false = omega arith
low_bit false b = omega arith

pub runs-le-count : (p : ℕ → Bool) (n : ℕ) → run_count p n ≤ count p n
unfolding begins
runs-le-count p n = rw (runs-are p n) (count-mono _ p n (λ j _. low_bit (p j) (before p j)))

pub runs-le : (p : ℕ → Bool) (n : ℕ) → run_count p n ≤ n
runs-le p n = omega (arith, runs-le-count p n, count-le p n)

-- ---- one turn of a loop

pub runs_none : (p : ℕ → Bool) → runs p 0 ≡ []
unfolding runs
runs_none p = refl

pub runs-more : (p : ℕ → Bool) (n : ℕ) → runs p (n + 1) ≡ take_in (p n) (before p n) (runs p n) n
unfolding runs
runs-more p n = rw (add-one n)

pub run_count-more : (p : ℕ → Bool) (n : ℕ) → run_count p (n + 1) ≡ run_count p n + bit (p n && not (before p n))
run_count-more p n = rw (runs-more p n) (length-take_in (p n) _ _ n)

pub before-none : (p : ℕ → Bool) → before p 0 ≡ false
unfolding before
before-none p = refl

pub before_more : (p : ℕ → Bool) (n : ℕ) → before p (n + 1) ≡ p n
unfolding before
before_more p n = rw (add-one n)

-- ---- the runs of a union

unfoldable pub either : (ℕ → Bool) → (ℕ → Bool) → ℕ → Bool
either p q j = p j || q j

-- j and the offset before it stand in different ones of the two sets
unfoldable pub crosses : (ℕ → Bool) → (ℕ → Bool) → ℕ → Bool
crosses p q j = (before p j && q j) || (before q j && p j)

at_one : (a b c d : Bool) → (a && b) ≡ false → (c && d) ≡ false
    → bit ((a || b) && not (c || d)) + bit ((c && b) || (d && a)) ≡ bit (a && not c) + bit (b && not d)
unfolding bit
at_one true true c d h k = clash refl h
at_one true false true true h k = clash refl k
at_one true false true false h k = refl
at_one true false false true h k = refl
at_one true false false false h k = refl
at_one false true true true h k = clash refl k
at_one false true true false h k = refl
at_one false true false true h k = refl
at_one false true false false h k = refl
at_one false false true true h k = clash refl k
at_one false false true false h k = refl
at_one false false false true h k = refl
at_one false false false false h k = refl

before-either : (p q : ℕ → Bool) (j : ℕ) → before (either p q) j ≡ (before p j || before q j)
unfolding before either
before-either p q zero = refl
before-either p q (suc j) = refl

pub before-apart : (p q : ℕ → Bool) (j : ℕ) → ((i : ℕ) → i < suc j → (p i && q i) ≡ false) → (before p j && before q j) ≡ false
unfolding before
before-apart p q zero h = refl
before-apart p q (suc j) h = h j (omega arith)

at_j : (p q : ℕ → Bool) (j : ℕ) → ((i : ℕ) → i < suc j → (p i && q i) ≡ false)
    → bit (begins (either p q) j) + bit (crosses p q j) ≡ bit (begins p j) + bit (begins q j)
unfolding either begins crosses
at_j p q j h = rw (before-either p q j) (at_one (p j) (q j) (before p j) (before q j) (h j (omega arith)) (before-apart p q j h))

pub runs-union : (p q : ℕ → Bool) (n : ℕ) → ((j : ℕ) → j < n → (p j && q j) ≡ false)
    → run_count (either p q) n + count (crosses p q) n ≡ run_count p n + run_count q n
runs-union p q n h =
    rw (runs-are _ n, runs-are p n, runs-are q n)
    (count_add _ _ _ _ n (λ j l. at_j p q j (λ i k. h i (omega arith))))

-- ---- ascending, not touching

-- runs from a on, below n, in order, with at least one offset between one and the next
unfoldable pub Apart : ℕ → ℕ → List (ℕ × ℕ) → Type 0
Apart n a [] = Unit {0}
Apart n a (x ∷ l) = (a ≤ x.0) × (x.0 ≤ x.1) × (x.1 < n) × Apart n (x.1 + 2) l

-- the last run ends right before n; or leaves a gap before n
unfoldable pub Next : Bool → List (ℕ × ℕ) → ℕ → Type 0
Next true [] n = ⊥
Next false [] n = Unit {0}
Next true (x ∷ []) n = x.1 + 1 ≡ n
Next false (x ∷ []) n = x.1 + 1 < n
Next b (x ∷ y ∷ l) n = Next b (y ∷ l) n

open_next : (b : Bool) (l : List (ℕ × ℕ)) (n : ℕ) → Next b l n → Next false l (suc n)
unfolding Next
open_next true [] n h = tt
open_next false [] n h = tt
open_next true (x ∷ []) n h = omega arith
open_next false (x ∷ []) n h = omega arith
open_next b (x ∷ y ∷ l) n h = open_next b (y ∷ l) n h

open-apart : (n a : ℕ) (l : List (ℕ × ℕ)) → Apart n a l → Apart (suc n) a l
unfolding Apart
open-apart n a [] h = tt
open-apart n a (x ∷ l) h = (h.0, h.1, omega arith, open-apart n (x.1 + 2) l h.3)

reach-next : (l : List (ℕ × ℕ)) (n : ℕ) → Next true l n → Next true (reach l n) (suc n)
unfolding Next reach
reach-next [] n h = absurd h
reach-next (x ∷ []) n h = omega arith
reach-next (x ∷ y ∷ []) n h = reach-next (y ∷ []) n h
reach-next (x ∷ y ∷ z ∷ l) n h = reach-next (y ∷ z ∷ l) n h

reach-apart : (n a : ℕ) (l : List (ℕ × ℕ)) → Apart n a l → Next true l n → Apart (suc n) a (reach l n)
unfolding Apart Next reach
reach-apart n a [] p h = tt
reach-apart n a (x ∷ []) p h = (p.0, omega arith, omega arith, tt)
reach-apart n a (x ∷ y ∷ l) p h = (p.0, p.1, omega arith, reach-apart n (x.1 + 2) (y ∷ l) p.3 h)

end-next : (l : List (ℕ × ℕ)) (n : ℕ) → Next true (l ++ ((n, n) ∷ [])) (suc n)
unfolding Next
end-next [] n = omega arith
end-next (x ∷ []) n = omega arith
end-next (x ∷ y ∷ l) n = end-next (y ∷ l) n

end-apart : (n a : ℕ) (l : List (ℕ × ℕ)) → a ≤ n → Apart n a l → Next false l n → Apart (suc n) a (l ++ ((n, n) ∷ []))
unfolding Apart Next
end-apart n a [] b p h = (b, omega arith, omega arith, tt)
end-apart n a (x ∷ []) b p h = (p.0, p.1, omega arith, (omega arith, omega arith, omega arith, tt))
end-apart n a (x ∷ y ∷ l) b p h = (p.0, p.1, omega arith, end-apart n (x.1 + 2) (y ∷ l) (omega arith) p.3 h)

take_in-apart : (a b : Bool) (l : List (ℕ × ℕ)) (n : ℕ) → Apart n 0 l → Next b l n → Apart (suc n) 0 (take_in a b l n) × Next a (take_in a b l n) (suc n)
unfolding take_in
take_in-apart false b l n p h = (open-apart n 0 l p, open_next b l n h)
take_in-apart true true l n p h = (reach-apart n 0 l p h, reach-next l n h)
take_in-apart true false l n p h = (end-apart n 0 l (omega arith) p h, end-next l n)

apart_next : (p : ℕ → Bool) (n : ℕ) → Apart n 0 (runs p n) × Next (before p n) (runs p n) n
unfolding runs before Apart Next
apart_next p zero = (tt, tt)
apart_next p (suc n) = let h = apart_next p n in take_in-apart (p n) _ _ n h.0 h.1

pub runs-apart : (p : ℕ → Bool) (n : ℕ) → Apart n 0 (runs p n)
runs-apart p n = (apart_next p n).0

pub runs-next : (p : ℕ → Bool) (n : ℕ) → Next (before p n) (runs p n) n
runs-next p n = (apart_next p n).1

-- where the offset before n is a member, there is a run
next-some : (b : Bool) (l : List (ℕ × ℕ)) (n : ℕ) → Next b l n → bit b ≤ length l
unfolding Next bit
next-some true [] n h = absurd h
next-some false [] n h = omega arith
next-some true (x ∷ l) n h = omega arith
next-some false (x ∷ l) n h = omega arith

pub before-some : (p : ℕ → Bool) (n : ℕ) → bit (before p n) ≤ run_count p n
before-some p n = next-some _ _ n (runs-next p n)

-- ---- members

-- j stands in one of the runs
unfoldable pub held : List (ℕ × ℕ) → ℕ → Bool
held [] j = false
held (x ∷ l) j = (leb x.0 j && leb j x.1) || held l j

-- the same, of the entries
pub entries-hold : (l : List (ℕ × ℕ)) (j : ℕ) → any (in_run j) (map entry l) ≡ held l j
unfolding any held
entries-hold [] j = refl
entries-hold (x ∷ l) j = rw (entries-hold l j)

in_reach : (l r n j : ℕ) → l ≤ r → r + 1 ≡ n → (leb l j && leb j n) ≡ ((leb l j && leb j r) || eqb j n)
in_reach l r n j h e =
    by-test _ (λ t. rw (t, le-leb j n (omega (arith, leb-true j r t)), ne_eqb j n (λ q. omega (arith, leb-true j r t))) (sym (or-false _)))
    (λ f. by-test _ (λ t. rw (f, t, le-leb j n (omega (arith, eqb-true j n t)), le-leb l j (omega (arith, eqb-true j n t))))
    (λ g. let d = eqb-false j n g in rw (f, g, lt-leb j n (omega (arith, leb-false j r f, d))) (sym (or-false _))))

held-reach : (n a : ℕ) (l : List (ℕ × ℕ)) (j : ℕ) → Apart n a l → Next true l n → held (reach l n) j ≡ (held l j || eqb j n)
unfolding held reach Next Apart
held-reach n a [] j p h = absurd h
held-reach n a (x ∷ []) j p h = rw (in_reach x.0 x.1 n j p.1 h) (simp or-false)
held-reach n a (x ∷ y ∷ l) j p h = rw (held-reach n (x.1 + 2) (y ∷ l) j p.3 h) (sym (or_assoc (leb x.0 j && leb j x.1) (held (y ∷ l) j) (eqb j n)))

point : (n j : ℕ) → (leb n j && leb j n) ≡ eqb j n
point n j = by-test _ (λ t. rw (t, le-leb n j (omega (arith, eqb-true j n t)), le-leb j n (omega (arith, eqb-true j n t))))
    (λ f. let d = eqb-false j n f in by-test _ (λ t. rw (f, t, lt-leb j n (omega (arith, leb-true n j t, d)))) (λ g. rw (f, g)))

held-end : (l : List (ℕ × ℕ)) (n j : ℕ) → held (l ++ ((n, n) ∷ [])) j ≡ (held l j || eqb j n)
unfolding held
held-end [] n j = rw (point n j) (or-false _)
held-end (x ∷ l) n j = rw (held-end l n j) (sym (or_assoc (leb x.0 j && leb j x.1) (held l j) (eqb j n)))

held-take_in : (a b : Bool) (l : List (ℕ × ℕ)) (n j : ℕ) → Apart n 0 l → Next b l n → held (take_in a b l n) j ≡ (held l j || (a && eqb j n))
unfolding take_in
held-take_in false b l n j p h = sym (or-false _)
held-take_in true false l n j p h = held-end l n j
held-take_in true true l n j p h = held-reach n 0 l j p h

or-none : (a b : Bool) → (a || (b && false)) ≡ a
or-none a b = rw (and-false b) (or-false a)

one_more : (p : ℕ → Bool) (n j : ℕ) → ((ltb j n && p j) || (p n && eqb j n)) ≡ (ltb j (suc n) && p j)
one_more p n j =
    by-test _
    (λ t. rw (t, eqb-true j n t, le-ltb n n (omega arith), lt-ltb n (suc n) (omega arith)) (and-true (p n)))
    (λ f. let d = eqb-false j n f in by-test _ (λ t. rw (f, t, lt-ltb j (suc n) (omega (arith, ltb-true j n t))) (or-none (p j) (p n)))
    (λ g. rw (f, g, le-ltb j (suc n) (omega (arith, ltb-false j n g, d))) (and-false (p n))))

pub runs-hold : (p : ℕ → Bool) (n j : ℕ) → held (runs p n) j ≡ (ltb j n && p j)
unfolding runs held
runs-hold p zero j = rw (le-ltb j 0 (omega arith))
runs-hold p (suc n) j = held-take_in (p n) _ _ n j (runs-apart p n) (runs-next p n) ∙ rw (runs-hold p n j) (one_more p n j)

pub entries-of-runs : (p : ℕ → Bool) (n j : ℕ) → any (in_run j) (map entry (runs p n)) ≡ (ltb j n && p j)
entries-of-runs p n j = entries-hold _ j ∙ runs-hold p n j

-- ---- runs are told by their members

in-run : (x : ℕ × ℕ) (l : List (ℕ × ℕ)) (j : ℕ) → x.0 ≤ j → j ≤ x.1 → held (x ∷ l) j ≡ true
unfolding held
in-run x l j a b = rw (le-leb x.0 j a, le-leb j x.1 b)

past-run : (x : ℕ × ℕ) (l : List (ℕ × ℕ)) (j : ℕ) → x.1 < j → held (x ∷ l) j ≡ held l j
unfolding held
past-run x l j b = rw (lt-leb j x.1 b, and-false _)

pub held_in : (n a : ℕ) (l : List (ℕ × ℕ)) (j : ℕ) → Apart n a l → held l j ≡ true → (a ≤ j) × (j < n)
unfolding Apart held
held_in n a [] j p h = absurd (false≢true h)
held_in n a (x ∷ l) j p h = by-test _
    (λ t. let b = both _ _ t in let c = leb-true x.0 j b.0 in let e = leb-true j x.1 b.1 in (omega arith, omega arith))
    (λ f. let r = held_in n (x.1 + 2) l j p.3 (rw f at h) in (omega arith, r.1))

not-held : (n a : ℕ) (l : List (ℕ × ℕ)) (j : ℕ) → Apart n a l → (a ≤ j → j < n → ⊥) → held l j ≡ false
not-held n a l j p f = by-test _ (λ t. let r = held_in n a l j p t in absurd (f r.0 r.1)) (λ g. g)

no_less : (n a b : ℕ) (x y : ℕ × ℕ) (l m : List (ℕ × ℕ)) → Apart n a (x ∷ l) → Apart n b (y ∷ m) → ((j : ℕ) → held (x ∷ l) j ≡ held (y ∷ m) j) → (y.0 ≤ x.0) × (x.0 ≡ y.0 → y.1 ≤ x.1)
unfolding Apart
no_less n a b x y l m p q h = (
  (held_in n y.0 (y ∷ m) x.0 (omega arith, q.1, q.2, q.3) (sym (h x.0) ∙ in-run x l x.0 (omega arith) p.1)).0,
  λ e. elim (dec_le y.1 x.1) [
    | yes g ↦ g
    | no f ↦ clash (h _ ∙ in-run y m _ (omega arith) (omega arith))
        (past-run x l _ (omega arith) ∙ not-held n _ l (x.1 + 1) p.3 (λ c d. omega arith))
  ],
)

pub apart-unique : (n a b : ℕ) (l m : List (ℕ × ℕ)) → Apart n a l → Apart n b m → ((j : ℕ) → held l j ≡ held m j) → l ≡ m
unfolding Apart held
apart-unique n a b [] [] p q h = refl
apart-unique n a b [] (y ∷ m) p q h = clash (h y.0 ∙ in-run y m y.0 (omega arith) q.1) refl
apart-unique n a b (x ∷ l) [] p q h = clash (sym (h x.0) ∙ in-run x l x.0 (omega arith) p.1) refl
apart-unique n a b (x ∷ l) (y ∷ m) p q h =
    let f = no_less n a b x y l m p q h in
    let g = no_less n b a y x m l q p (λ j. sym (h j)) in
    let e : x.0 ≡ y.0 = omega arith in
    let c = f.1 e in
    let d = g.1 (sym e) in
    let s : x.1 ≡ y.1 = omega arith in
    let same : x ≡ y = λ i. (e i, s i) in
    cc (
      same,
      apart-unique n (x.1 + 2) _ l m p.3 q.3
          (λ j. elim (dec_le (x.1 + 2) j) [
            | yes k ↦ sym (past-run x l j (omega arith)) ∙ h j ∙ past-run y m j (omega arith)
            | no k ↦ not-held n _ l j p.3 (λ u v. omega arith) ∙ sym (not-held n _ m j q.3 (λ u v. omega arith))
          ]),
    )

-- runs that are apart are the runs of their members
pub apart-runs : (n a : ℕ) (l : List (ℕ × ℕ)) → Apart n a l → runs (held l) n ≡ l
apart-runs n a l p = apart-unique n 0 a _ l (runs-apart _ n) p
    (λ j. runs-hold _ n j ∙ by-test _ (λ t. rw (t, lt-ltb j n (held_in n a l j p t).1)) (λ f. rw f (and-false (ltb j n))))

-- ---- and have as many members as their lengths add up to

count-range : (l r n : ℕ) → count (λ j. leb l j && leb j r) n ≡ min n (r + 1) - l
unfolding count bit
count-range l r zero = omega arith
count-range l r (suc n) = by-test (leb l n)
    (λ t. by-test (leb n r)
    (λ u. rw (t, u) (omega (arith, count-range l r n, leb-true l n t, leb-true n r u)))
    (λ u. rw (t, u) (omega (arith, count-range l r n, leb-true l n t, leb-false n r u))))
    (λ t. rw t (omega (arith, count-range l r n, leb-false l n t)))

-- of the first run and the rest, at most one has j
first-or-rest : (n a : ℕ) (x : ℕ × ℕ) (l : List (ℕ × ℕ)) (j : ℕ) → Apart n a (x ∷ l) → ((leb x.0 j && leb j x.1) && held l j) ≡ false
unfolding Apart
first-or-rest n a x l j p = by-test _
    (λ t. let b = (held_in n _ l j p.3 t).0 in rw (lt-leb j x.1 (omega arith), and-false _))
    (λ f. rw f (and-false (leb x.0 j && leb j x.1)))

pub lengths-count : (n a : ℕ) (l : List (ℕ × ℕ)) → Apart n a l → run_lengths (map entry l) ≡ count (held l) n
unfolding Apart run_lengths held bit
lengths-count n a [] p = sym (count-never _ n (λ j b. refl))
lengths-count n a (x ∷ l) p =
    let first : ℕ → Bool = λ j. leb x.0 j && leb j x.1 in
    omega (
      arith,
      lengths-count n (x.1 + 2) l p.3,
      count-range x.0 x.1 n,
      count-never (λ j. false) n (λ j b. refl),
      count_add (held (x ∷ l)) (λ j. false) first (held l) n (λ j b. omega (arith, bit_or (first j) _ (first-or-rest n a x l j p))),
    )
