-- The order of matches is one of any two (`closer-total`). So the closest few of a list of matches are what is meant (`closest-is`), and nothing else is (`closest-only`). One match more (`closest-more`), and the place of a match that is later than all others (`placed_at`).
use Rattle.meaning_numbers.proofs.Prelude.{◌≡◌, refl, sym, ap, ◌∙◌, true, false, ◌⊎◌, inl, inr, List, [], ◌∷◌, ◌++◌, List-as-Memᴰ as Mem, List·Memᴰ·head as head, List·Memᴰ·tail as tail, List·Memᴰ·cases-cons as cases_cons, ℕ, zero, suc, ◌<◌, ◌≤◌, min, arith, dec_lt, T, eqb, ltb, ltb→lt, lt→ltb, length, take, drop, get_or, length-take, lt-ltb, le-ltb, ltb-true, eqb-true, eq-eqb, by-test, is_true}
use Rattle.meaning_numbers.proofs.Member.{mem-at}
use Rattle.meaning_filter.specs.Matches.{Question, all_matches, Upward, done, next}
use Rattle.meaning_filter.specs.Ordered.{place, in_order, Total, Ordered, nothing, ahead, Different, empty, new}
use Rattle.meaning_filter.specs.Closest.{closer, closest, IsClosest}
use Rattle.meaning_filter.proofs.Matches.{all-exactly}
use Rattle.meaning_filter.proofs.Ordered.{order-length, first-is, first-only, first_more}

-- what the order says, as numbers; request 10: j < i
abbrev pub Preferred : ℕ → ℕ → Type 0
Preferred i j = i < j

abbrev pub Closer : ℕ × ℕ → ℕ × ℕ → Type 0
Closer x y = (x.1 < y.1) ⊎ ((x.1 ≡ y.1) × Preferred (x.0) (y.0))

closer-says : (x y : ℕ × ℕ) → T (closer x y) → Closer x y
closer-says x y h = by-test (ltb (x.1) (y.1))
    (λ t. inl (ltb-true (x.1) (y.1) t))
    (λ f. by-test (eqb (x.1) (y.1)) (λ t. inr (eqb-true (x.1) (y.1) t, ltb→lt _ _ (rw (f, t) at h))) (λ u. absurd (rw (f, u) at h)))

says-closer : (x y : ℕ × ℕ) → Closer x y → T (closer x y)
says-closer x y (inl h) = rw (lt-ltb (x.1) (y.1) h) tt
says-closer x y (inr h) = rw (le-ltb (x.1) (y.1) (omega arith), eq-eqb (x.1) (y.1) (h.0)) (lt→ltb _ _ (h.1))

pub closer-total : Total closer
closer-total = record {
  never = λ x t. no_less x (closer-says x x t);
  on = λ x y z t u. says-closer x z (less-on (closer-says x y t) (closer-says y z u));
  told = λ x y f g. same x y (λ h. f (says-closer x y h)) (λ h. g (says-closer y x h));
}
  where
    no_less : (x : ℕ × ℕ) → Closer x x → ⊥
    no_less x (inl h) = omega arith
    no_less x (inr h) = omega arith

    less-on : {x y z : ℕ × ℕ} → Closer x y → Closer y z → Closer x z
    less-on (inl h) (inl k) = inl (omega arith)
    less-on (inl h) (inr k) = inl (omega arith)
    less-on (inr h) (inl k) = inl (omega arith)
    less-on (inr h) (inr k) = inr (omega arith, omega arith)

    same : (x y : ℕ × ℕ) → (Closer x y → ⊥) → (Closer y x → ⊥) → x ≡ y
    same (i, d) (j, e) f g =
        let a : d < e → ⊥ = λ h. f (inl h) in
        let b : e < d → ⊥ = λ h. g (inl h) in
        let near : d ≡ e = omega arith in
        let u : Preferred i j → ⊥ = λ h. f (inr (near, h)) in
        let v : Preferred j i → ⊥ = λ h. g (inr (sym near, h)) in
        let here : i ≡ j = omega arith in
        rw (near, here)

-- ---- the closest few

-- ascending offsets are of different entries
pub upward-different : {k : ℕ} {l : List (ℕ × ℕ)} → Upward k l → Different l
upward-different done = empty
upward-different (next {e = e} {l = l} h u) = new {x = e} {l = l} (λ m. omega (arith, upward-mem u m)) (upward-different u)
  where
    upward-mem : {k : ℕ} {l : List (ℕ × ℕ)} {x : ℕ × ℕ} → Upward k l → Mem x l → k ≤ x.0
    upward-mem (next h u) m = elim (cases_cons m) [ inl e ↦ rw e h | inr i ↦ omega (arith, upward-mem u i) ]
    upward-mem done m = elim m [ ]

pub closest-is : (k : ℕ) {l : List (ℕ × ℕ)} → Upward 0 l → IsClosest k l (closest k l)
closest-is k u = first-is closer-total k (upward-different u)

pub closest-only : (k : ℕ) {l r : List (ℕ × ℕ)} → Upward 0 l → IsClosest k l r → r ≡ closest k l
closest-only k u f = first-only closer-total k (upward-different u) f

-- of all matches of a question
pub closest-matches : (k : ℕ) (z : Question) → IsClosest k (all_matches z) (closest k (all_matches z))
closest-matches k z = closest-is k (all-exactly z).ascending

pub closest-more : (k : ℕ) (l : List (ℕ × ℕ)) (x : ℕ × ℕ) → closest k (l ++ (x ∷ [])) ≡ take k (place closer x (closest k l))
closest-more k l x = first_more closer k l x

pub closest-many : (k : ℕ) (l : List (ℕ × ℕ)) → length (closest k l) ≡ min k (length l)
closest-many k l = length-take k (in_order closer l) ∙ ap (min k) (order-length closer l)

-- ---- a match that is later than all others

-- it comes before those of which this holds, by distance alone; request 10: d ≤ e
abbrev pub Sooner : ℕ → ℕ → Type 0
Sooner d e = d < e

-- and behind those of which this holds; request 10: e < d
abbrev pub Later : ℕ → ℕ → Type 0
Later d e = e ≤ d

late-sooner : (j d : ℕ) (y : ℕ × ℕ) → y.0 < j → Sooner d (y.1) → closer (j, d) y ≡ true
late-sooner j d y h s = is_true _ (says-closer (j, d) y (elim (dec_lt d (y.1)) [ yes l ↦ inl l | no n ↦ inr (omega arith, omega arith) ]))

late-later : (j d : ℕ) (y : ℕ × ℕ) → y.0 < j → Later d (y.1) → closer (j, d) y ≡ false
late-later j d y h s = by-test (closer (j, d) y) (λ t. absurd (never (closer-says (j, d) y (rw t tt)))) (λ f. f)
  where
    never : Closer (j, d) y → ⊥
    never (inl l) = omega arith
    never (inr l) = omega arith

-- it stands behind p entries
pub placed_at : (j d p : ℕ) (l : List (ℕ × ℕ)) → ((y : ℕ × ℕ) → Mem y l → y.0 < j) → p ≤ length l → ((i : ℕ) → i < p → Later d (get_or l i (0, 0)).1) → (p < length l → Sooner d (get_or l p (0, 0)).1)
    → place closer (j, d) l ≡ take p l ++ ((j, d) ∷ drop p l)
unfolding place
placed_at j d zero [] b h near far = refl
placed_at j d zero (y ∷ l) b h near far = rw (late-sooner j d y (b y (head refl)) (far (omega arith))) refl
placed_at j d (suc p) [] b h near far = absurd (omega arith)
placed_at j d (suc p) (y ∷ l) b h near far =
    rw (late-later j d y (b y (head refl)) (near 0 (omega arith)))
    (ap (λ (m : List (ℕ × ℕ)). y ∷ m) (placed_at j d p l (λ z m. b z (tail m)) (omega arith) (λ i k. near (suc i) (omega arith)) (λ k. far (omega arith))))

-- in order, distances never fall
pub rising : {l : List (ℕ × ℕ)} → Ordered closer l → (i k : ℕ) → i ≤ k → k < length l → (get_or l i (0, 0)).1 ≤ (get_or l k (0, 0)).1
rising nothing i k h s = absurd (omega arith)
rising (ahead a o) zero zero h s = omega arith
rising (ahead {x = x} {l = l} a o) zero (suc k) h s = up (closer-says x (get_or l k (0, 0)) (a (get_or l k (0, 0)) (mem-at (0, 0) l k (omega arith))))
  where
    up : Closer x (get_or l k (0, 0)) → x.1 ≤ (get_or l k (0, 0)).1
    up (inl l) = omega arith
    up (inr l) = omega arith
rising (ahead a o) (suc i) zero h s = absurd (omega arith)
rising (ahead {l = l} a o) (suc i) (suc k) h s = rising o i k (omega arith) (omega arith)
