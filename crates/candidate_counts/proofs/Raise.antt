-- Counts raised place by place and run by run: raised twice by one part is raised once by either (`bump-twice`); a turn over places (`raise-more`) and over runs (`going_next`).
use Rattle.meaning_numbers.specs.Place.{any}
use Rattle.meaning_numbers.proofs.Prelude.{◌≡◌, refl, sym, ◌∙◌, Bool, true, false, ◌&&◌, ◌||◌, and-false, List, [], ◌∷◌, ℕ, ◌+◌, ◌-◌, ◌<◌, ◌≤◌, min, max, arith, leb, ltb, eqb, pos, length, get_or, set, length-set, get_or-set_same, get_or-set_other, leb-true, leb-false, ltb-true, ltb-false, eqb-true, eqb-false, lt-ltb, le-ltb, le-leb, lt-leb, ne_eqb, by-test}
use Rattle.meaning_rows.specs.Index.{Entry, in_run}
use Rattle.candidate_counts.specs.Raise.{bump, between, reached, Raised}

pub bump-none : (part n : ℕ) → bump false part n ≡ n
unfolding bump
bump-none part n = refl

pub bump-twice : (a b : Bool) (part n : ℕ) → bump b part (bump a part n) ≡ bump (a || b) part n
unfolding bump
bump-twice false b part n = refl
bump-twice true b part n = by-test (eqb n part)
    (λ t. rw (t, ne_eqb (part + 1) part (λ e. omega arith)) (rw (and-false b)))
    (λ f. rw (f, f, and-false b))

pub raised-none : (part : ℕ) (l : List ℕ) (hit : ℕ → Bool) → ((j : ℕ) → hit j ≡ false) → Raised part hit l l
raised-none part l hit h = record { long = refl; at = λ j. rw (h j) (sym (bump-none part _)) }

-- ---- a turn over places

between_none : (from j : ℕ) → between from from j ≡ false
between_none from j = by-test _ (λ t. rw (t, le-ltb j from (leb-true from j t))) (λ f. rw f)

pub raise-starts : (part from : ℕ) (l : List ℕ) → Raised part (between from from) l l
raise-starts part from l = raised-none part l _ (between_none from)

between-here : (from i : ℕ) → from ≤ i → between from (i + 1) i ≡ true
between-here from i h = rw (le-leb from i h, lt-ltb i (i + 1) (omega arith))

between-before : (from i j : ℕ) → (j ≡ i → ⊥) → between from (i + 1) j ≡ between from i j
between-before from i j n = by-test _
    (λ t. rw (t, lt-ltb j (i + 1) (omega (arith, ltb-true j i t))))
    (λ f. rw (f, le-ltb j (i + 1) (omega (arith, ltb-false j i f, n))))

between-past : (from i : ℕ) → between from i i ≡ false
between-past from i = rw (le-ltb i i (omega arith)) (and-false (leb from i))

pub raise-more : (part from i v : ℕ) (old now : List ℕ) → from ≤ i → i < length now → Raised part (between from i) old now → v ≡ bump true part (get_or now i 0)
    → Raised part (between from (i + 1)) old (set now i v)
raise-more part from i v old now h l r e = record {
  long = length-set now i v ∙ r.long;
  at = λ j. by-test _
      (λ t. rw (eqb-true j i t, get_or-set_same now i v 0 l, e, r.at i, between-past from i, between-here from i h, bump-none part _))
      (λ f. let n = eqb-false j i f in rw (get_or-set_other now i j v 0 n, between-before from i j n) (r.at j));
}

pub raised-cong : (part : ℕ) (p q : ℕ → Bool) (old new : List ℕ) → ((j : ℕ) → p j ≡ q j) → Raised part p old new → Raised part q old new
raised-cong part p q old new h r = record { long = r.long; at = λ j. rw (sym (h j)) (r.at j) }

same_end : (from i to j : ℕ) → to ≤ i → i ≤ max from to → between from i j ≡ between from to j
same_end from i to j h k = by-test _
    (λ t. let l = leb-true from j t in by-test _ (λ b. rw (t, b, lt-ltb j i (omega (arith, ltb-true j to b)))) (λ g. rw (t, g, le-ltb j i (omega (arith, ltb-false j to g)))))
    (λ f. rw f)

pub raise-ends : (part from i to : ℕ) (old new : List ℕ) → to ≤ i → i ≤ max from to → Raised part (between from i) old new → Raised part (between from to) old new
raise-ends part from i to old new h k = raised-cong part _ _ old new (λ j. same_end from i to j h k)

-- ---- a turn over runs

-- the places of a run, moved down and clipped, are the offsets whose windows it has
run-reached : (offsets shift l r j : ℕ) → between (min (l - shift) offsets) (min (r + 1 - shift) offsets) j ≡ (ltb j offsets && in_run (j + shift) (pos l, pos r))
run-reached offsets shift l r j = by-test _
    (λ t. rw t (both_ends (ltb-true j offsets t)))
    (λ f. let b = ltb-false j offsets f in rw (f, le-ltb j (min (r + 1 - shift) offsets) (omega arith)) (and-false (leb (min _ offsets) j)))
  where
    both_ends : j < offsets → between (min (l - shift) offsets) (min (r + 1 - shift) offsets) j ≡ (leb l (j + shift) && leb (j + shift) r)
    both_ends b = by-test (leb l (j + shift))
        (λ t. let x = leb-true l (j + shift) t in rw (t, le-leb (min (l - shift) offsets) j (omega arith))
        (by-test (leb (j + shift) r) (λ u. let y = leb-true (j + shift) r u in rw (u, lt-ltb j (min (r + 1 - shift) offsets) (omega arith)))
        (λ g. let y = leb-false (j + shift) r g in rw (g, le-ltb j (min (r + 1 - shift) offsets) (omega arith)))))
        (λ f. let x = leb-false l (j + shift) f in rw (f, lt-leb (min (l - shift) offsets) j (omega arith)))

-- raising by the runs that are left gives what is to be had
pub record Going (part offsets shift : ℕ) (all left : List Entry) (old new : List ℕ) : Type 0 where
  pub long : length new ≡ length old
  pub at : (j : ℕ) → bump (reached offsets shift left j) part (get_or new j 0) ≡ bump (reached offsets shift all j) part (get_or old j 0)

pub going-starts : (part offsets shift : ℕ) (all : List Entry) (old : List ℕ) → Going part offsets shift all all old old
going-starts part offsets shift all old = record { long = refl; at = λ j. refl }

pub split-run : (o a b : Bool) → (o && (a || b)) ≡ ((o && a) || (o && b))
split-run true a b = refl
split-run false a b = refl

pub going_next : (part offsets shift l r : ℕ) (all rest : List Entry) (old now new : List ℕ) → Going part offsets shift all ((pos l, pos r) ∷ rest) old now
    → Raised part (between (min (l - shift) offsets) (min (r + 1 - shift) offsets)) now new → Going part offsets shift all rest old new
unfolding any
going_next part offsets shift l r all rest old now new g h = record {
  long = h.long ∙ g.long;
  at = λ j. rw (h.at j, run-reached offsets shift l r j, bump-twice (ltb j offsets && in_run (j + shift) (pos l, pos r)) (reached offsets shift rest j) part (get_or now j 0), sym (split-run (ltb j offsets) (in_run (j + shift) (pos l, pos r)) (any (in_run (j + shift)) rest))) (g.at j);
}

pub going-ends : (part offsets shift : ℕ) (all : List Entry) (old new : List ℕ) → Going part offsets shift all [] old new → Raised part (reached offsets shift all) old new
unfolding any
going-ends part offsets shift all old new g = record {
  long = g.long;
  at = λ j. sym (bump-none part _) ∙ rw (sym (and-false (ltb j offsets))) (g.at j);
}
