-- What the scratch count tells: it is the number of parts exactly at the candidates (`leading-all`).
use Rattle.meaning_numbers.specs.Place.{numbers_from}
use Rattle.meaning_numbers.proofs.Prelude.{◌≡◌, refl, sym, ◌∙◌, ap, Bool, true, false, ◌&&◌, and-true, and-false, and_assoc, map, ℕ, zero, suc, ◌+◌, ◌*◌, ◌≤◌, arith, zero-add, eqb, ℤ, nat_abs, eq-eqb, ne_eqb, by-test}
use Rattle.meaning_rows.specs.Index.{Index}
use Rattle.meaning_filter.specs.Candidates.{admits, candidate}
use Rattle.candidate_counts.specs.Raise.{bump}
use Rattle.candidate_counts.proofs.LeadingLaws.{leading}

-- a part's turn at a count that is at most its number
turn : (a : Bool) (i n : ℕ) → n ≤ i → eqb (bump a i n) (suc i) ≡ (eqb n i && a)
unfolding bump
turn true i n h = by-test (eqb n i) (λ t. rw t (eq-eqb (i + 1) (suc i) (omega arith))) (λ f. rw f (ne_eqb n (suc i) (λ e. omega arith)))
turn false i n h = ne_eqb n (suc i) (λ e. omega arith) ∙ sym (and-false (eqb n i))

module _ (x : Index) (range : ℕ → ℤ × ℤ) where
  abbrev w : ℕ
  w = nat_abs x.window

  -- one part more, behind the others
  candidate-more : (k n j : ℕ) → candidate x (map range (numbers_from k (suc n))) j ≡ (candidate x (map range (numbers_from k n)) j && admits x (range (k + n)) (j + n * w))
  unfolding candidate numbers_from
  candidate-more k zero j =
      let e : k + 0 ≡ k = omega arith in let f : j + 0 * w ≡ j = omega arith in
      rw (e, f) (and-true _)
  candidate-more k (suc n) j =
      let e : suc k + n ≡ k + suc n = omega arith in let f : j + w + n * w ≡ j + suc n * w = omega arith in
      ap (λ t. admits x (range k) j && t) (candidate-more (suc k) n (j + w))
      ∙ rw (e, f) (sym (and_assoc (admits x (range k) j) (candidate x (map range (numbers_from (suc k) n)) (j + w)) (admits x (range (k + suc n)) (j + suc n * w))))

  pub leading_le : (i j : ℕ) → leading x range i j ≤ i
  unfolding leading bump
  leading_le zero j = omega arith
  leading_le (suc i) j = by-test (admits x (range i) (j + i * w) && eqb (leading x range i j) i)
      (λ t. rw t (omega arith)) (λ f. rw f (omega (arith, leading_le i j)))

  -- the count is the number of parts exactly at the candidates
  pub leading-all : (i j : ℕ) → eqb (leading x range i j) i ≡ candidate x (map range (numbers_from 0 i)) j
  unfolding leading candidate numbers_from
  leading-all zero j = refl
  leading-all (suc i) j =
      let a = admits x (range i) _ in
      turn a i _ (leading_le i j) ∙ ap (λ t. t && a) (leading-all i j) ∙ sym (candidate-more 0 i j ∙ rw (zero-add i))
