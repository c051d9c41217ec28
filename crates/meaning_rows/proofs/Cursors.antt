-- Where the next run of a row is to be written: while a row's part is not full, its last entry in the right column has the number of runs written so far.
-- So a pass over the runs fills all parts with no room but the parts themselves, with the runs (`filed-run`) or with any two values of each run (`filed-as`).
use Rattle.meaning_numbers.proofs.Prelude.{◌≡◌, sym, ap, ◌∙◌, ◌⊎◌, inl, inr, ⊎_elim, Bool, true, false, cond, List, [], ◌∷◌, ◌++◌, ℕ, suc, ◌+◌, ◌-◌, ◌<◌, ◌≤◌, arith, dec_lt, eqb, ltb, length, set, get_or, length-set, List·get_d-append, get_or-set_same, get_or-set_other, get_or_at, eqb-true, eqb-false, ltb-true, lt-ltb, by-test}
use Rattle.meaning_rows.specs.Runs.{before, runs, run_count}
use Rattle.meaning_rows.proofs.Parts.{Laid, Parts, run-count, run-runs, stay-runs}
use Rattle.meaning_rows.proofs.Columns.{lefts, rights, lefts-end, rights-end, length-lefts, length-rights, run_count-none, run_count-mono}

-- the right column after run number t of a part is written, which ends at v: the part begins at f and has n entries
unfoldable pub file_right : List ℕ → ℕ → ℕ → ℕ → ℕ → List ℕ
file_right right f n t v = cond (ltb (t + 1) n) (set (set right (f + t) v) (f + n - 1) (t + 1)) (set right (f + t) v)

pub length-file : (right : List ℕ) (f n t v : ℕ) → length (file_right right f n t v) ≡ length right
unfolding file_right
length-file right f n t v = by-test (ltb (t + 1) n)
    (λ h. rw h (length-set (set right (f + t) v) (f + n - 1) (t + 1) ∙ length-set right (f + t) v))
    (λ h. rw h (length-set right (f + t) v))

-- what is not written stays
pub filed-other : (right : List ℕ) (f n t v x : ℕ) → (x ≡ f + t → ⊥) → (x ≡ f + n - 1 → ⊥) → get_or (file_right right f n t v) x 0 ≡ get_or right x 0
unfolding file_right
filed-other right f n t v x a b = by-test (ltb (t + 1) n)
    (λ h. rw h (get_or-set_other (set right (f + t) v) (f + n - 1) x (t + 1) 0 b ∙ get_or-set_other right (f + t) x v 0 a))
    (λ h. rw h (get_or-set_other right (f + t) x v 0 a))

-- up to this run the part is as if no cursor stood in it
filed-inner : (right : List ℕ) (f n t v u : ℕ) → u < t + 1 → get_or (file_right right f n t v) (f + u) 0 ≡ get_or (set right (f + t) v) (f + u) 0
unfolding file_right
filed-inner right f n t v u a = by-test (ltb (t + 1) n)
    (λ h. let l = ltb-true (t + 1) n h in rw h (get_or-set_other (set right (f + t) v) (f + n - 1) (f + u) (t + 1) 0 (λ e. omega arith)))
    (λ h. rw h)

filed-cursor : (right : List ℕ) (f n t v : ℕ) → t + 1 < n → f + n ≤ length right → get_or (file_right right f n t v) (f + n - 1) 0 ≡ t + 1
unfolding file_right
filed-cursor right f n t v l room = rw (lt-ltb (t + 1) n l) (get_or-set_same (set right (f + t) v) (f + n - 1) (t + 1) 0 (omega (arith, length-set right (f + t) v)))

module _ (R W : ℕ) (P : ℕ → ℕ → Bool) (first : ℕ → ℕ) where
  pub record Cursors (j : ℕ) (right : List ℕ) : Type 0 where
    pub cursor : (i : ℕ) → i < R → run_count (P i) j < run_count (P i) W → get_or right (first i + run_count (P i) W - 1) 0 ≡ run_count (P i) j

  -- after j windows each row's part begins with what f and g make of the ends of its runs
  pub record PartsAs (f g : ℕ → ℕ) (j : ℕ) (left right : List ℕ) : Type 0 where
    pub left_as : (i t : ℕ) → i < R → t < run_count (P i) j → get_or left (first i + t) 0 ≡ f (get_or (lefts (runs (P i) j)) t 0)
    pub right-as : (i t : ℕ) → i < R → t < run_count (P i) j → get_or right (first i + t) 0 ≡ g (get_or (rights (runs (P i) j)) t 0)

  pub parts-as-start : (f g : ℕ → ℕ) (left right : List ℕ) → PartsAs f g 0 left right
  parts-as-start f g left right = record {
    left_as = λ i t h m. absurd (omega (arith, run_count-none (P i)));
    right-as = λ i t h m. absurd (omega (arith, run_count-none (P i)));
  }

  pub cursors-start : (right : List ℕ) → ((x : ℕ) → get_or right x 0 ≡ 0) → Cursors 0 right
  cursors-start right z = record { cursor = λ i h m. z (first i + run_count (P i) W - 1) ∙ sym (run_count-none (P i)) }

  module _ (total : ℕ) (laid : Laid R W P first total) (i from d : ℕ) (i_r : i < R) (cut : before (P i) from ≡ false) (end : from + suc d ≤ W)
      (mine : (j : ℕ) → from ≤ j → j < from + suc d → P i j ≡ true) (others : (j k : ℕ) → from ≤ j → j < from + suc d → k < R → (k ≡ i → ⊥) → P k j ≡ false) where
    -- how many runs the row has before, and in all
    abbrev t : ℕ
    t = run_count (P i) from

    abbrev n : ℕ
    n = run_count (P i) W

    one_more : run_count (P i) (from + suc d) ≡ t + 1
    one_more = run-count (P i) from d cut mine

    some_left : t < n
    some_left = omega (arith, one_more, run_count-mono (P i) (from + suc d) W end)

    -- another row's entries lie before or after this row's part
    away : (k u : ℕ) → k < R → (k ≡ i → ⊥) → u < run_count (P k) W → (first k + u < first i) ⊎ (first i + n ≤ first k + u)
    away k u h f m = elim (dec_lt k i) [
      | yes l ↦ inl (omega (arith, laid.apart k i l i_r))
      | no g ↦ let l : i < k = elim (dec_lt i k) [ yes l ↦ l | no q ↦ absurd (f (omega arith)) ] in inr (omega (arith, laid.apart i k l h))
    ]

    -- an entry of another row is not written
    not-here : (k u : ℕ) → k < R → (k ≡ i → ⊥) → u < run_count (P k) W → first k + u ≡ first i + t → ⊥
    not-here k u h f m e = ⊎_elim (λ l. omega arith) (λ l. omega (arith, some_left)) (away k u h f m)

    not_last : (k u : ℕ) → k < R → (k ≡ i → ⊥) → u < run_count (P k) W → first k + u ≡ first i + n - 1 → ⊥
    not_last k u h f m e = ⊎_elim (λ l. omega (arith, some_left)) (λ l. omega (arith, some_left)) (away k u h f m)

    -- whatever is written as the run's right end
    pub cursors-run : (right : List ℕ) (v : ℕ) → total ≤ length right → Cursors from right → Cursors (from + suc d) (file_right right (first i) n t v)
    cursors-run right v rr c = record { cursor = λ k h m. by-test (eqb k i) (λ q. cursor-mine k (eqb-true k i q) m) (λ q. cursor-away k h (eqb-false k i q) m) }
      where
        cursor-mine : (k : ℕ) → k ≡ i → run_count (P k) (from + suc d) < run_count (P k) W → get_or (file_right right (first i) n t v) (first k + run_count (P k) W - 1) 0 ≡ run_count (P k) (from + suc d)
        cursor-mine k q m =
            let m' : run_count (P i) (from + suc d) < n = rw q at m in
            rw q (filed-cursor right _ n t v (omega (arith, one_more)) (omega (arith, laid.room i i_r)) ∙ sym one_more)

        cursor-away : (k : ℕ) → k < R → (k ≡ i → ⊥) → run_count (P k) (from + suc d) < run_count (P k) W
            → get_or (file_right right (first i) n t v) (first k + run_count (P k) W - 1) 0 ≡ run_count (P k) (from + suc d)
        cursor-away k h f m =
            let stay : run_count (P k) (from + suc d) ≡ run_count (P k) from = ap length (stay-runs (P k) from (suc d) (λ j a l. others j k a l h f)) in
            let u = run_count (P k) W - 1 in
            let e : first k + run_count (P k) W - 1 ≡ first k + u = omega arith in
            let less : u < run_count (P k) W = omega arith in
            rw e (filed-other right (first i) n t v _ (not-here k u h f less) (not_last k u h f less) ∙ (rw e at (c.cursor k h (omega (arith, stay)))) ∙ sym stay)

    -- the run's entry is what f and g make of its ends
    pub filed-as : (f g : ℕ → ℕ) (left right : List ℕ) → total ≤ length left → total ≤ length right → PartsAs f g from left right
        → PartsAs f g (from + suc d) (set left (first i + t) (f from)) (file_right right (first i) n t (g (from + d)))
    filed-as f g left right rl rr p = record {
      left_as = λ k u h m. by-test (eqb k i) (λ q. left-mine k u (eqb-true k i q) m) (λ q. left-away k u (eqb-false k i q) h m);
      right-as = λ k u h m. by-test (eqb k i) (λ q. right-mine k u (eqb-true k i q) m) (λ q. right-away k u (eqb-false k i q) h m);
    }
      where
        mine-runs : runs (P i) (from + suc d) ≡ runs (P i) from ++ ((from, from + d) ∷ [])
        mine-runs = run-runs (P i) from d cut mine

        stay : (k : ℕ) → k < R → (k ≡ i → ⊥) → runs (P k) (from + suc d) ≡ runs (P k) from
        stay k h q = stay-runs (P k) from (suc d) (λ j a l. others j k a l h q)

        room : first i + n ≤ total
        room = laid.room i i_r

        -- entry u of a column with one more behind it
        ending : (xs : List ℕ) (v u : ℕ) → length xs ≡ t → u < t + 1 → ((u ≡ t) × (get_or (xs ++ (v ∷ [])) u 0 ≡ v)) ⊎ ((u < t) × (get_or (xs ++ (v ∷ [])) u 0 ≡ get_or xs u 0))
        ending xs v u e l = elim (dec_lt u t) [
          | yes b ↦ inr (b, List·get_d-append xs (v ∷ []) 0 u (omega arith))
          | no b ↦ let q : u ≡ t = omega arith in inl (q, rw q (get_or_at xs v [] 0 t e))
        ]

        left-mine : (k u : ℕ) → k ≡ i → u < run_count (P k) (from + suc d) → get_or (set left (first i + t) (f from)) (first k + u) 0 ≡ f (get_or (lefts (runs (P k) (from + suc d))) u 0)
        left-mine k u q m =
            let m' : u < t + 1 = omega (arith, ap (λ x. run_count (P x) (from + suc d)) q, one_more) in
            rw (q, mine-runs, lefts-end _ (from, from + d)) (⊎_elim
            (λ a. rw (a.1, a.0) (get_or-set_same left _ _ 0 (omega (arith, room, some_left))))
            (λ a. rw a.1 (get_or-set_other left (first i + t) (first i + u) (f from) 0 (λ e. omega (arith, a.0)) ∙ p.left_as i u i_r a.0))
            (ending (lefts (runs (P i) from)) from u (length-lefts (runs (P i) from)) m'))

        right-mine : (k u : ℕ) → k ≡ i → u < run_count (P k) (from + suc d) → get_or (file_right right (first i) n t (g (from + d))) (first k + u) 0 ≡ g (get_or (rights (runs (P k) (from + suc d))) u 0)
        right-mine k u q m =
            let m' : u < t + 1 = omega (arith, ap (λ x. run_count (P x) (from + suc d)) q, one_more) in
            rw (q, mine-runs, rights-end _ (from, from + d)) (filed-inner right _ n t _ u m' ∙ ⊎_elim
            (λ a. rw (a.1, a.0) (get_or-set_same right _ _ 0 (omega (arith, room, some_left))))
            (λ a. rw a.1 (get_or-set_other right (first i + t) (first i + u) (g (from + d)) 0 (λ e. omega (arith, a.0)) ∙ p.right-as i u i_r a.0))
            (ending (rights (runs (P i) from)) (from + d) u (length-rights (runs (P i) from)) m'))

        below : (k u : ℕ) → k < R → (k ≡ i → ⊥) → u < run_count (P k) (from + suc d) → (u < run_count (P k) from) × (u < run_count (P k) W)
        below k u h q m = (omega (arith, ap length (stay k h q)), omega (arith, run_count-mono (P k) (from + suc d) W end))

        left-away : (k u : ℕ) → (k ≡ i → ⊥) → k < R → u < run_count (P k) (from + suc d) → get_or (set left (first i + t) (f from)) (first k + u) 0 ≡ f (get_or (lefts (runs (P k) (from + suc d))) u 0)
        left-away k u q h m =
            let b = below k u h q m in
            rw (stay k h q) (get_or-set_other left (first i + t) (first k + u) _ 0 (not-here k u h q b.1) ∙ p.left_as k u h b.0)

        right-away : (k u : ℕ) → (k ≡ i → ⊥) → k < R → u < run_count (P k) (from + suc d) → get_or (file_right right (first i) n t (g (from + d))) (first k + u) 0 ≡ g (get_or (rights (runs (P k) (from + suc d))) u 0)
        right-away k u q h m =
            let b = below k u h q m in
            rw (stay k h q) (filed-other right (first i) n t (g (from + d)) _ (not-here k u h q b.1) (not_last k u h q b.1) ∙ p.right-as k u h b.0)

    -- the run itself is filed
    pub filed-run : (left right : List ℕ) → total ≤ length left → total ≤ length right → Parts R W P first from left right → Cursors from right
        → Parts R W P first (from + suc d) (set left (first i + t) from) (file_right right (first i) n t (from + d)) × Cursors (from + suc d) (file_right right (first i) n t (from + d))
    filed-run left right rl rr start c =
        let p = filed-as (λ x. x) (λ x. x) left right rl rr (record { left_as = start.left_is; right-as = start.right_is }) in
        (record { left_is = p.left_as; right_is = p.right-as }, cursors-run right (from + d) rr c)
