-- Judging row after row ends in what the meanings say. `Judging` is the invariant of the loop over lent records, with how it starts, moves, stops and ends.
use Rattle.std.specs.Prelude.{None, Some, Ok, Err}
use Rattle.meaning_numbers.proofs.Prelude.{◌≡◌, refl, sym, ◌∙◌, ap, Bool, true, false, cond, List, [], ◌∷◌, Option, none-some, ℕ, suc, ◌+◌, ◌<◌, ◌≤◌, add-one, arith, length, get_or, drop, drop_of_length-le, by-test, both}
use Rattle.meaning_rows.specs.Judge.{head_good, run_lengths, range_good, part_good, row_good, bad_row_from, first_bad_row, length_total}
use Rattle.meaning_rows.specs.{declared.Row.Row, declared.Head.Head, Index.Index, Index.lent, Index.runs_of}
use Rattle.rows_records.specs.Records.{zero_row}
use Rattle.rows_records.proofs.Rest.{drop-next}
use Rattle.rows_judge.specs.{declared.RowsJudged.RowsJudged, Judged.Judged, Judged.outcome, Judged.judged_of, Judging.begun, Judging.start, Judging.moved, Judging.next}
use Rattle.rows_judge.proofs.Next.{fits-room}

-- ---- rows do not change how a row is judged

module _ (h : Head) (rows : List Row) (left right : List ℕ) where
  pub same_start : start (lent h [] [] []) ≡ start (lent h rows left right)
  unfolding head_good
  same_start = refl

  pub same_next : (s : RowsJudged) (r : Row) → next (lent h [] left right) s r ≡ next (lent h rows left right) s r
  unfolding next row_good range_good part_good
  same_next s r = refl

module _ (x : Index) where
  -- the outcome, from row k on and a state
  abbrev pub judged_from : ℕ → RowsJudged → List Row → Judged
  judged_from k s l = outcome (bad_row_from x k s.least s.first s.taken l) (s.taken + length_total x l)

  -- ---- one row

  abbrev tested : RowsJudged → Row → Bool
  tested s r = row_good x s.least s.first s.taken r

  -- a row after which there is a state is good
  next-some : (s t : RowsJudged) (r : Row) → next x s r ≡ Some t → (tested s r ≡ true) × (moved s r (run_lengths (runs_of x r)) ≡ t)
  unfolding next
  next-some s t r e = by (tested s r) refl e
    where
      by : (b : Bool) → tested s r ≡ b → cond b (Some (moved s r (run_lengths (runs_of x r)))) None ≡ Some t → (tested s r ≡ true) × (moved s r (run_lengths (runs_of x r)) ≡ t)
      by true g h = (g, cc)
      by false g h = absurd (none-some _ h)

  next-none : (s : RowsJudged) (r : Row) → next x s r ≡ None → tested s r ≡ false
  unfolding next
  next-none s r e = by (tested s r) refl e
    where
      by : (b : Bool) → tested s r ≡ b → cond b (Some (moved s r (run_lengths (runs_of x r)))) None ≡ None → tested s r ≡ false
      by true g h = absurd (none-some _ (sym h))
      by false g h = g

  begins : (s : RowsJudged) (r : Row) → tested s r ≡ true → r.first ≡ s.first
  unfolding row_good
  begins s r e =
      let a = both (range_good x _ r) _ e in
      let b = both (part_good x _ r) _ a.1 in
      (fits-room x s r (rw (a.0, b.0) refl)).0

  row_on : (k : ℕ) (s : RowsJudged) (r : Row) (l : List Row) → tested s r ≡ true
      → bad_row_from x k s.least s.first s.taken (r ∷ l) ≡ bad_row_from x (suc k) r.up (s.first + r.runs) (s.taken + run_lengths (runs_of x r)) l
  unfolding bad_row_from
  row_on k s r l e = rw e refl

  row-off : (k : ℕ) (s : RowsJudged) (r : Row) (l : List Row) → tested s r ≡ false → bad_row_from x k s.least s.first s.taken (r ∷ l) ≡ Some k
  unfolding bad_row_from
  row-off k s r l e = rw e refl

  -- ---- all rows

  pub turn_on : (k : ℕ) (s t : RowsJudged) (r : Row) (l : List Row) → next x s r ≡ Some t → judged_from (suc k) t l ≡ judged_from k s (r ∷ l)
  unfolding length_total
  turn_on k s t r l e =
      let n = next-some s t r e in
      let m = run_lengths (runs_of x r) in
      let total : s.taken + m + length_total x l ≡ s.taken + (m + length_total x l) = omega arith in
      ap (λ u. judged_from (suc k) u l) (sym n.1)
      ∙ ap (λ f. outcome (bad_row_from x (suc k) r.up (f + r.runs) (s.taken + m) l) (s.taken + m + length_total x l)) (begins s r n.0)
      ∙ ap (outcome (bad_row_from x (suc k) r.up (s.first + r.runs) (s.taken + m) l)) total
      ∙ ap (λ (o : Option ℕ). outcome o (s.taken + (m + length_total x l))) (sym (row_on k s r l n.0))

  pub turn-off : (k : ℕ) (s : RowsJudged) (r : Row) (l : List Row) → next x s r ≡ None → Err k ≡ judged_from k s (r ∷ l)
  unfolding outcome
  turn-off k s r l e = sym (ap (λ (o : Option ℕ). outcome o (s.taken + length_total x (r ∷ l))) (row-off k s r l (next-none s r e)))

  pub turn-none : (k : ℕ) (s : RowsJudged) → Ok s.taken ≡ judged_from k s []
  unfolding bad_row_from length_total outcome
  turn-none k s = let e : s.taken + 0 ≡ s.taken = omega arith in ap (λ (n : ℕ). Ok n) (sym e)

  -- the head is judged first
  pub head-on : {s : RowsJudged} → start x ≡ Some s → judged_from 0 s x.rows ≡ judged_of x
  unfolding judged_of first_bad_row outcome
  head-on {s} e = by-test (head_good x)
      (λ t. let p : Some begun ≡ Some s = rw t at e in
      let q : begun ≡ s = cc in
      let z : 0 + length_total x x.rows ≡ length_total x x.rows = omega arith in
      ap (λ u. judged_from 0 u x.rows) (sym q) ∙ rw (t, z) refl)
      (λ f. let p : None ≡ Some s = rw f at e in absurd (none-some _ p))

  pub head-off : start x ≡ None → Err 0 ≡ judged_of x
  unfolding judged_of first_bad_row outcome
  head-off e = by-test (head_good x)
      (λ t. let p : Some begun ≡ None = rw t at e in absurd (none-some _ (sym p)))
      (λ f. rw f refl)

-- ---- the loop over lent rows, at record k

module _ (h : Head) (rows : List Row) (left right : List ℕ) where
  abbrev X : Index
  X = lent h rows left right

  -- what is left to judge gives the outcome
  pub record Judging (s : RowsJudged) (k : ℕ) : Type 0 where
    pub gives : judged_from X k s (drop k rows) ≡ judged_of X

  pub judging-starts : {s : RowsJudged} → start (lent h [] [] []) ≡ Some s → Judging s 0
  judging-starts {s} e = record { gives = head-on X (sym (same_start h rows left right) ∙ e) }

  pub judging-unstarted : start (lent h [] [] []) ≡ None → Err 0 ≡ judged_of X
  judging-unstarted e = head-off X (sym (same_start h rows left right) ∙ e)

  -- record k, r
  module _ {s : RowsJudged} {k : ℕ} {r : Row} (j : Judging s k) (is-r : r ≡ get_or rows k zero_row) (l : k < length rows) where
    as-next : next (lent h [] left right) s r ≡ next X s (get_or rows k zero_row)
    as-next = ap (next _ s) is-r ∙ same_next h rows left right s _

    first-left : judged_from X k s (get_or rows k zero_row ∷ drop (suc k) rows) ≡ judged_of X
    first-left = ap (judged_from X k s) (sym (drop-next rows k zero_row l)) ∙ j.gives

    pub judging-next : {t : RowsJudged} → next (lent h [] left right) s r ≡ Some t → Judging t (k + 1)
    judging-next {t} e = record { gives = rw (add-one k) (turn_on X k s t _ _ (sym as-next ∙ e) ∙ first-left) }

    pub judging-stops : next (lent h [] left right) s r ≡ None → Err k ≡ judged_of X
    judging-stops e = turn-off X k s _ _ (sym as-next ∙ e) ∙ first-left

  pub judging-ends : {s : RowsJudged} {k : ℕ} → Judging s k → length rows ≤ k → Ok s.taken ≡ judged_of X
  judging-ends {s} {k} j l = turn-none X k s ∙ ap (judged_from X k s) (sym (drop_of_length-le rows l)) ∙ j.gives

-- ---- the judgement, by the first bad row

pub judged-by : (x : Index) (o : Option ℕ) → first_bad_row x ≡ o → judged_of x ≡ outcome o (length_total x x.rows)
unfolding judged_of
judged-by x o e = rw e refl
