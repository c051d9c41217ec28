-- A window taken in by its row's part: the run that it goes on with reaches further, or a run begins; no other part is touched (`parts-turn`). Over plain variables.
use Rattle.std.specs.Prelude.{ℕ, ◌+◌, ◌-◌, ◌<◌, ◌≤◌, eqb, length, set, get_or, Bool, true, false, not, List, [], ◌∷◌, ◌++◌, ◌⊎◌, ◌≡◌, refl}
use Rattle.std.proofs.Common.{eqb-true, get_or-set_same, get_or-set_other, inl, inr, ⊎_elim, sym, ◌∙◌, arith}
use Rattle.std.proofs.lemmas.Bool.{eqb-false}
use Rattle.std.proofs.Math.ListN.{get_or-append}
use Rattle.std.proofs.lemmas.List.{get_or_at}
use Rattle.std.proofs.Math.Decide.{dec_lt}
use Rattle.meaning_numbers.specs.Sum.{bit}
use Rattle.meaning_numbers.proofs.{Tests.by-test, Count.bit-false}
use Rattle.meaning_rows.specs.Runs.{before, take_in, runs, run_count}
use Rattle.meaning_rows.proofs.Columns.{lefts, rights, lefts-reach, rights-reach, lefts-end, rights-end, length-lefts, length-rights, put_left, put_right, run_count-mono}
use Rattle.meaning_rows.proofs.{Runs.runs-more, Runs.run_count-more, Runs.before-some, Parts.Laid, Parts.Parts}

-- ---- the row's own part

-- one more behind what is there
own-end : (ls l : List ℕ) (base v t : ℕ) → ((u : ℕ) → u < length ls → get_or l (base + u) 0 ≡ get_or ls u 0) → base + length ls < length l → t < length ls + 1
    → get_or (set l (base + length ls) v) (base + t) 0 ≡ get_or (ls ++ (v ∷ [])) t 0
own-end ls l base v t h room b = elim (dec_lt t (length ls)) [
  | yes k ↦ get_or-set_other l (base + length ls) (base + t) v 0 (λ e. omega arith) ∙ h t k ∙ sym (get_or-append ls (v ∷ []) 0 t k)
  | no f ↦ let e : t ≡ length ls = omega arith in rw (e, get_or-set_same l (base + length ls) v 0 room) (sym (get_or_at ls v [] 0 (length ls) refl))
]

own-left : (b : Bool) (xs : List (ℕ × ℕ)) (l : List ℕ) (base j t : ℕ) → ((u : ℕ) → u < length xs → get_or l (base + u) 0 ≡ get_or (lefts xs) u 0)
    → base + length xs + bit (not b) ≤ length l → t < length xs + bit (not b)
    → get_or (put_left true b l (base + length xs) j) (base + t) 0 ≡ get_or (lefts (take_in true b xs j)) t 0
unfolding put_left take_in bit
own-left true xs l base j t h room m = rw (lefts-reach xs j) (h t (omega arith))
own-left false xs l base j t h room m =
    let n = length-lefts xs in
    rw (lefts-end xs (j, j), ← n) (own-end (lefts xs) l base j t (λ u k. h u (omega (arith, n))) (omega (arith, n)) (omega (arith, n)))

own-right : (b : Bool) (xs : List (ℕ × ℕ)) (l : List ℕ) (base j t : ℕ) → ((u : ℕ) → u < length xs → get_or l (base + u) 0 ≡ get_or (rights xs) u 0)
    → base + length xs + bit (not b) ≤ length l → bit b ≤ length xs → t < length xs + bit (not b)
    → get_or (put_right true b l (base + length xs) j) (base + t) 0 ≡ get_or (rights (take_in true b xs j)) t 0
unfolding put_right take_in bit
own-right true xs l base j t h room some m =
    let n = length-rights xs in
    let e : base + length xs - 1 ≡ base + (length xs - 1) = omega arith in
    rw (rights-reach xs j, e)
    (elim (dec_lt t (length xs - 1)) [
      | yes k ↦ get_or-set_other l (base + (length xs - 1)) (base + t) j 0 (λ q. omega arith) ∙ h t (omega arith) ∙ sym (get_or-set_other (rights xs) (length xs - 1) t j 0 (λ q. omega arith))
      | no f ↦ let q : t ≡ length xs - 1 = omega arith in
          rw q (get_or-set_same l (base + (length xs - 1)) j 0 (omega arith) ∙ sym (get_or-set_same (rights xs) (length xs - 1) j 0 (omega (arith, n))))
    ])
own-right false xs l base j t h room some m =
    let n = length-rights xs in
    rw (rights-end xs (j, j), ← n) (own-end (rights xs) l base j t (λ u k. h u (omega (arith, n))) (omega (arith, n)) (omega (arith, n)))

-- ---- another row's part: an index that is not written

left_other : (b : Bool) (l : List ℕ) (at j x : ℕ) → (b ≡ false → x ≡ at → ⊥) → get_or (put_left true b l at j) x 0 ≡ get_or l x 0
unfolding put_left
left_other true l at j x n = refl
left_other false l at j x n = get_or-set_other l at x j 0 (n refl)

right-other : (b : Bool) (l : List ℕ) (at j x : ℕ) → (x + bit b ≡ at → ⊥) → bit b ≤ at → get_or (put_right true b l at j) x 0 ≡ get_or l x 0
unfolding put_right bit
right-other true l at j x n some = get_or-set_other l (at - 1) x j 0 (λ e. n (omega arith))
right-other false l at j x n some = get_or-set_other l at x j 0 (λ e. n (omega arith))

bit-sum : (b : Bool) → bit b + bit (not b) ≡ 1
unfolding bit
bit-sum true = refl
bit-sum false = refl

module _ (R W : ℕ) (P : ℕ → ℕ → Bool) (first : ℕ → ℕ) (total : ℕ) (laid : Laid R W P first total) (j i : ℕ) (j_w : j < W) (i_r : i < R) (mine : P i j ≡ true) (others : (k : ℕ) → k < R → (k ≡ i → ⊥) → P k j ≡ false) where
  abbrev at : ℕ
  at = first i + run_count (P i) j

  -- the row's runs after this window
  mine-more : run_count (P i) (j + 1) ≡ run_count (P i) j + bit (not (before (P i) j))
  mine-more = run_count-more (P i) j ∙ rw mine

  mine-runs : runs (P i) (j + 1) ≡ take_in true (before (P i) j) (runs (P i) j) j
  mine-runs = runs-more (P i) j ∙ rw mine

  fits : at + bit (not (before (P i) j)) ≤ first i + run_count (P i) W
  fits = omega (arith, mine-more, run_count-mono (P i) (j + 1) W (omega arith))

  -- another row's runs stay
  other-runs : (k : ℕ) → k < R → (k ≡ i → ⊥) → runs (P k) (j + 1) ≡ runs (P k) j
  unfolding take_in
  other-runs k h n = runs-more (P k) j ∙ rw (others k h n)

  -- its part lies before or after this row's
  away : (k t : ℕ) → k < R → (k ≡ i → ⊥) → t < run_count (P k) j → (first k + t < first i) ⊎ (first i + run_count (P i) W ≤ first k + t)
  away k t h n m = elim (dec_lt k i) [
    | yes l ↦ inl (omega (arith, laid.apart k i l i_r, run_count-mono (P k) j W (omega arith)))
    | no f ↦ let g : i < k = elim (dec_lt i k) [ yes l ↦ l | no q ↦ absurd (n (omega arith)) ] in inr (omega (arith, laid.apart i k g h))
  ]

  pub parts-turn : (left right : List ℕ) → total ≤ length left → total ≤ length right → Parts R W P first j left right
      → Parts R W P first (j + 1) (put_left true (before (P i) j) left at j) (put_right true (before (P i) j) right at j)
  parts-turn left right rl rr p = record {
    left_is = λ k t h m. by-test (eqb k i) (λ e. left-mine k t (eqb-true k i e) m) (λ e. left-away k t h (eqb-false k i e) m);
    right_is = λ k t h m. by-test (eqb k i) (λ e. right-mine k t (eqb-true k i e) m) (λ e. right-away k t h (eqb-false k i e) m);
  }
    where
      left-mine : (k t : ℕ) → k ≡ i → t < run_count (P k) (j + 1) → get_or (put_left true (before (P i) j) left at j) (first k + t) 0 ≡ get_or (lefts (runs (P k) (j + 1))) t 0
      left-mine k t e m =
          let m' : t < run_count (P i) (j + 1) = rw e at m in
          rw (e, mine-runs) (own-left (before (P i) j) (runs (P i) j) left (first i) j t (λ u l. p.left_is i u i_r l) (omega (arith, fits, laid.room i i_r)) (omega (arith, mine-more)))

      right-mine : (k t : ℕ) → k ≡ i → t < run_count (P k) (j + 1) → get_or (put_right true (before (P i) j) right at j) (first k + t) 0 ≡ get_or (rights (runs (P k) (j + 1))) t 0
      right-mine k t e m =
          let m' : t < run_count (P i) (j + 1) = rw e at m in
          rw (e, mine-runs) (own-right (before (P i) j) (runs (P i) j) right (first i) j t (λ u l. p.right_is i u i_r l) (omega (arith, fits, laid.room i i_r)) (before-some (P i) j) (omega (arith, mine-more)))

      left-away : (k t : ℕ) → k < R → (k ≡ i → ⊥) → t < run_count (P k) (j + 1) → get_or (put_left true (before (P i) j) left at j) (first k + t) 0 ≡ get_or (lefts (runs (P k) (j + 1))) t 0
      left-away k t h n m =
          let m' : t < run_count (P k) j = rw (other-runs k h n) at m in
          rw (other-runs k h n) (left_other (before (P i) j) left at j (first k + t)
          (λ z e. ⊎_elim (λ l. omega arith) (λ l. omega (arith, fits, bit-sum (before (P i) j), bit-false z)) (away k t h n m')) ∙ p.left_is k t h m')

      right-away : (k t : ℕ) → k < R → (k ≡ i → ⊥) → t < run_count (P k) (j + 1) → get_or (put_right true (before (P i) j) right at j) (first k + t) 0 ≡ get_or (rights (runs (P k) (j + 1))) t 0
      right-away k t h n m =
          let m' : t < run_count (P k) j = rw (other-runs k h n) at m in
          rw (other-runs k h n) (right-other (before (P i) j) right at j (first k + t)
          (λ e. ⊎_elim (λ l. omega (arith, before-some (P i) j)) (λ l. omega (arith, fits, bit-sum (before (P i) j))) (away k t h n m')) (omega (arith, before-some (P i) j)) ∙ p.right_is k t h m')
