-- Laws of specs/Names.
use Rattle.meaning_numbers.specs.Sum.{bit, count}
use Rattle.meaning_numbers.proofs.Count.{count-shift}
use Rattle.meaning_numbers.proofs.Prelude.{◌≡◌, refl, sym, ap, Bool, false, ◌&&◌, ◌||◌, and-false, List, [], ◌∷◌, ℕ, zero, suc, ◌+◌, ◌<◌, ◌≤◌, arith, dec_le, leb, ltb, length, get_or, leb-true, leb-false, ltb-true, ltb-false, eqb-true, eqb-false, lt-ltb, le-ltb, le-leb, lt-leb, by-test}
use Rattle.meaning_rows.specs.Runs.{before, runs, run_count}
use Rattle.meaning_rows.proofs.{Runs.either, Runs.runs-cong, Columns.lefts, Columns.rights, Columns.length-lefts, Columns.length-rights, Neighbours.sum_over, Neighbours.runs-joined}
use Rattle.sums_slide.specs.Levels.{within}
use Rattle.sums_count.specs.Tally.{is_row}
use Rattle.build_merge.specs.Names.{name_at, name_before, names_of, NamedRow}

-- the windows of the rows from a up to and not with b
unfoldable pub group : (ℕ → ℕ) → ℕ → ℕ → ℕ → ℕ → Bool
group row n a b j = ltb j n && within a b (row j)

within_more : (a b x : ℕ) → within (a + 1) (b + 1) (x + 1) ≡ within a b x
unfolding within
within_more a b x = by-test _
    (λ t. by-test _
    (λ u. rw (t, u, le-leb (a + 1) (x + 1) (omega (arith, leb-true a x t)), lt-ltb (x + 1) (b + 1) (omega (arith, ltb-true x b u))))
    (λ u. rw (t, u, le-ltb (x + 1) (b + 1) (omega (arith, ltb-false x b u))) (and-false (leb (a + 1) (x + 1)))))
    (λ t. rw (t, lt-leb (a + 1) (x + 1) (omega (arith, leb-false a x t))))

module _ (row : ℕ → ℕ) (n a b : ℕ) where
  none_within : within (a + 1) (b + 1) 0 ≡ false
  unfolding within
  none_within = rw (lt-leb (a + 1) 0 (omega arith))

  -- a name is in the range exactly if it names a row of the group
  name-within : (j : ℕ) → within (a + 1) (b + 1) (name_at row n j) ≡ group row n a b j
  unfolding name_at group
  name-within j = by-test (ltb j n) (λ t. rw t (within_more a b (row j))) (λ f. rw f none_within)

  before-within : (l : ℕ) → within (a + 1) (b + 1) (name_before row n l) ≡ before (group row n a b) l
  unfolding name_before before
  before-within zero = none_within
  before-within (suc l) = name-within l

-- the group of one row
pub group-one : (row : ℕ → ℕ) (n i j : ℕ) → j < n → is_row row i j ≡ group row n i (i + 1) j
unfolding group is_row within
group-one row n i j l = rw (lt-ltb j n l) (by-test _
    (λ t. let e = eqb-true (row j) i t in rw (t, le-leb i (row j) (omega arith), lt-ltb (row j) (i + 1) (omega arith)))
    (λ f. rw f (by-test _
    (λ t. let b = leb-true i (row j) t in rw (t, le-ltb (row j) (i + 1) (elim (dec_le (i + 1) (row j)) [ yes k ↦ k | no k ↦ absurd ((eqb-false (row j) i f) (omega arith)) ])))
    (λ t. rw t))))

-- a sum over a list of ones for what passes is a count over its places
sum-count : (h : ℕ → ℕ) (p : ℕ → Bool) (xs : List ℕ) → ((t : ℕ) → t < length xs → h (get_or xs t 0) ≡ bit (p t)) → sum_over h xs ≡ count p (length xs)
unfolding sum_over count
sum-count h p [] k = refl
sum-count h p (x ∷ xs) k = omega (arith, k 0 (omega arith), sum-count h (λ t. p (suc t)) xs (λ t l. k (suc t) (omega arith)), count-shift p (length xs))

module _ (row : ℕ → ℕ) (n a i : ℕ) (order : a ≤ i) where
  apart : (j : ℕ) → j < n → (group row n a i j && is_row row i j) ≡ false
  unfolding group is_row within
  apart j l = by-test _
      (λ t. let e = eqb-true (row j) i t in rw (le-ltb (row j) i (omega arith), and-false _, and-false _))
      (λ f. rw f (and-false (ltb j n && (leb a (row j) && ltb (row j) i))))

  -- a group and the row behind it
  pub group-more : (j : ℕ) → j < n → (group row n a i j || is_row row i j) ≡ group row n a (i + 1) j
  unfolding group is_row within
  group-more j l = rw (lt-ltb j n l) (by-test _
      (λ t. let e = eqb-true (row j) i t in rw (t, le-ltb (row j) i (omega arith), and-false _, le-leb a (row j) (omega arith), lt-ltb (row j) (i + 1) (omega arith)))
      (λ f. let e : (row j ≡ i) → ⊥ = eqb-false (row j) i f in rw f (by-test _
      (λ t. let b = ltb-true (row j) i t in by-test (leb a (row j))
      (λ u. rw (t, u, lt-ltb (row j) (i + 1) (omega arith)))
      (λ u. rw (t, u)))
      (λ u. let b = ltb-false (row j) i u in rw (u, le-ltb (row j) (i + 1) (omega arith), and-false _)))))

  past : group row n a i n ≡ false
  unfolding group
  past = rw (le-ltb n n (omega arith))

  either-more : (j : ℕ) → j < n → either (group row n a i) (is_row row i) j ≡ group row n a (i + 1) j
  unfolding either
  either-more j l = group-more j l

  pub runs-merged : (first : ℕ) (left right : List ℕ) → NamedRow row n i first left right
      → run_count (group row n a (i + 1)) n
      + (count (names_of left first (a + 1) (i + 1)) (run_count (is_row row i) n) + count (names_of right first (a + 1) (i + 1)) (run_count (is_row row i) n))
      ≡ run_count (group row n a i) n + run_count (is_row row i) n
  unfolding names_of
  runs-merged first left right h =
      let p = group row n a i in
      let q = is_row row i in
      let ll = length-lefts (runs q n) in
      let lr = length-rights (runs q n) in
      let one = sum-count (λ l. bit (before p l)) (names_of left first (a + 1) (i + 1)) (lefts (runs q n))
      (λ t l. ap bit (sym (rw (h.left_is t (omega (arith, ll))) (before-within row n a i (get_or (lefts (runs q n)) t 0))))) in
      let two : sum_over (λ r. bit (p (suc r))) (rights (runs q n)) ≡ count (names_of right first (a + 1) (i + 1)) (length (rights (runs q n))) = sum-count (λ r. bit (p (suc r))) (names_of right first (a + 1) (i + 1)) (rights (runs q n))
      (λ t l. ap bit (sym (rw (h.right_is t (omega (arith, lr))) (name-within row n a i (suc (get_or (rights (runs q n)) t 0)))))) in
      omega (
        arith,
        runs-joined p q n apart past,
        ap length (runs-cong _ _ n either-more),
        rw ll at one,
        rw lr at two,
      )
