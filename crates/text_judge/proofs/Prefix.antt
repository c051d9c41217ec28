-- A text whose rows are all good: each row stands where it should and its numbers are held as they are (`row-placed`), and so are the ends of all runs (`runs-held`).
use Rattle.meaning_numbers.proofs.Prelude.{◌≡◌, refl, sym, ap, ◌∙◌, subst, true, false, ◌&&◌, false≢true, List, [], ◌∷◌, ◌++◌, map, ℕ, ◌+◌, ◌≤◌, arith, leb, ℤ, pos, ◌+ℤ◌, nat_abs, length, le_z, leb-true}
use Rattle.meaning_rows.specs.{declared.Head.Head, Index.Entry, Index.lent, Index.all_runs, Judge.head_good, Judge.runs_good, Judge.range_good}
use Rattle.meaning_text.specs.{Form.Value, Texts.index_form, Texts.row_form, Texts.row_said, Texts.index_said}
use Rattle.meaning_text.proofs.Reading.{on-flag}
use Rattle.numbers.specs.Narrow.{clamp, held}
use Rattle.rows_judge.proofs.Scan.{both, run_good, good-run}
use Rattle.text_judge.specs.Tally.{no_runs, run_next, runs_from, no_rows, row_fits, row_next, rows_from, head_held}
use Rattle.text_judge.specs.{declared.Runs.Runs, declared.Rows.Rows}
use Rattle.text_judge.proofs.Bad.{held-nat, good-entry, three, runs-bad, runs-count, runs-are, clamp-end, range-ends, rows-stop, NextIs, next-is, next-off, counted, HeadIs, head-is, width_is, windows-is}

pub map-append : {A B : Type 0} (f : A → B) (a b : List A) → map f (a ++ b) ≡ map f a ++ map f b
map-append f [] b = refl
map-append f (x ∷ a) b = rw (map-append f a b) refl

-- ---- runs

next_more : (W : ℕ) (s : Runs) (a b : ℕ) → (s.good && run_good W s.least a b) ≡ true → s.count ≤ s.total → (run_next W s a b).count ≤ (run_next W s a b).total
unfolding run_next
next_more W s a b e h = let g = good-run W s.least a b (both s.good (run_good W s.least a b) e).1 in rw e (omega (arith, h))

next-bad : (W : ℕ) (s : Runs) (a b : ℕ) → (s.good && run_good W s.least a b) ≡ false → (run_next W s a b).good ≡ false
unfolding run_next
next-bad W s a b e = rw e refl

-- good runs are no more than their lengths
count-total : (W : ℕ) (s : Runs) (l : List Entry) → s.count ≤ s.total → (runs_from W s l).good ≡ true → (runs_from W s l).count ≤ (runs_from W s l).total
unfolding runs_from
count-total W s [] h g = h
count-total W s (x ∷ l) h g =
    let n = run_next W s _ _ in
    on-flag _
    (λ e. count-total W n l (next_more W s _ _ e h) g)
    (λ e. absurd (false≢true (sym (runs-bad W n l (next-bad W s _ _ e)) ∙ g)))

-- good runs are held as they are
entries-held : (W a : ℕ) (l : List Entry) → W ≤ 4294967295 → runs_good (pos W) (pos a) l ≡ true → (map (λ (e : Entry). held e.0) l ≡ map (λ (e : Entry). nat_abs e.0) l) × (map (λ (e : Entry). held e.1) l ≡ map (λ (e : Entry). nat_abs e.1) l)
unfolding runs_good
entries-held W a [] h g = (refl, refl)
entries-held W a (x ∷ l) h g =
    let more = three (le_z (pos a) x.0) (le_z x.0 x.1) _ _ in
    let b = both _ _ (sym more ∙ g) in
    let e = good-entry W a x.0 x.1 b.0 in
    let i = entries-held W (nat_abs x.1 + 2) l h (subst (λ (z : ℤ). runs_good (pos W) (z +ℤ pos 2) l ≡ true) e.right b.1) in
    (rw (held-nat x.0 e.left (omega (arith, h)), i.0) refl, rw (held-nat x.1 e.right (omega (arith, h)), i.1) refl)

-- ---- rows

rows_split : (h : Head) (c : Rows) (a b : List (Value row_form)) → rows_from h c (a ++ b) ≡ rows_from h (rows_from h c a) b
unfolding rows_from
rows_split h c [] b = refl
rows_split h c (r ∷ a) b = rows_split h (row_next h c (clamp r.0) (clamp r.1.0) (runs_from h.windows no_runs r.1.1)) a b

-- the rows before good rows are good
before-good : (h : Head) (c : Rows) (a b : List (Value row_form)) → (rows_from h c (a ++ b)).good ≡ true → (rows_from h c a).good ≡ true
before-good h c a b g =
    on-flag _
    (λ e. e)
    (λ e. absurd (false≢true (sym (rows-stop h _ b e).0 ∙ sym (ap (λ (d : Rows). d.good) (rows_split h c a b)) ∙ g)))

module _ (v : Value index_form) (head : head_good (lent (head_held v) [] [] []) ≡ true) where
  abbrev h : Head
  h = head_held v

  i : HeadIs v
  i = head-is v head

  most : h.windows ≤ 4294967295
  most = omega (arith, i.most)

  abbrev runs_of : Value row_form → Runs
  runs_of r = runs_from h.windows no_runs r.1.1

  -- a row that is closed and leaves the rows good is good
  fits_by : (c : Rows) (r : Value row_form) (l : List (Value row_form)) → (rows_from h c (r ∷ l)).good ≡ true → row_fits h c (clamp r.0) (clamp r.1.0) (runs_of r) ≡ true
  fits_by c r l g =
      on-flag _
      (λ e. e)
      (λ e. absurd (false≢true (sym (next-off h (index_said v) (width_is v i) (windows-is v i) most c r l e).0 ∙ g)))

  -- what a good row's tests say
  record Tested (c : Rows) (r : Value row_form) : Type 0 where
    range : range_good (lent h [] [] []) c.least (record { low = clamp r.0; up = clamp r.1.0; first = 0; runs = 0 }) ≡ true
    runs : (runs_of r).good ≡ true
    total : c.taken + (runs_of r).total ≤ h.windows

  tested : (c : Rows) (r : Value row_form) → row_fits h c (clamp r.0) (clamp r.1.0) (runs_of r) ≡ true → Tested c r
  tested c r e =
      let a = both _ _ e in
      let b = both (leb 1 (runs_of r).count) ((runs_of r).good && leb _ h.windows) a.1 in
      let d = both (runs_of r).good _ b.1 in
      record { range = a.0; runs = d.0; total = leb-true _ h.windows d.1 }

  next : (c : Rows) (r : Value row_form) → c.good ≡ true → row_fits h c (clamp r.0) (clamp r.1.0) (runs_of r) ≡ true
      → NextIs h (index_said v) (width_is v i) (windows-is v i) most c r (row_next h c (clamp r.0) (clamp r.1.0) (runs_of r))
  next c r g e = next-is h (index_said v) (width_is v i) (windows-is v i) most c r g e

  -- good rows have no more runs than windows
  record Small (c : Rows) : Type 0 where
    runs : c.runs ≤ c.taken
    taken : c.taken ≤ h.windows

  small-next : (c : Rows) (r : Value row_form) → c.good ≡ true → row_fits h c (clamp r.0) (clamp r.1.0) (runs_of r) ≡ true → Small c → Small (row_next h c (clamp r.0) (clamp r.1.0) (runs_of r))
  unfolding row_next
  small-next c r g e s =
      let t = tested c r e in
      let n = count-total h.windows no_runs r.1.1 (omega arith) t.runs in
      rw (g, e) (record { runs = omega (arith, n); taken = t.total })

  small-from : (l : List (Value row_form)) (c : Rows) → c.good ≡ true → Small c → (rows_from h c l).good ≡ true → Small (rows_from h c l)
  unfolding rows_from
  small-from [] c g s e = s
  small-from (r ∷ l) c g s e =
      let f = fits_by c r l e in
      small-from l (row_next h c (clamp r.0) (clamp r.1.0) (runs_of r)) (next c r g f).good (small-next c r g f s) e

  module _ (good : (rows_from h no_rows v.1.1.1).good ≡ true) where
    -- a row, after the rows before it
    pub record Placed (a : List (Value row_form)) (r : Value row_form) : Type 0 where
      pub low : clamp r.0 ≡ r.0
      pub up : clamp r.1.0 ≡ r.1.0
      pub first : (rows_from h no_rows a).runs ≡ length (all_runs (map row_said a))
      pub count : (runs_from h.windows no_runs r.1.1).count ≡ length r.1.1
      pub small : length (all_runs (map row_said a)) + length r.1.1 ≤ 4294967295

    pub row-placed : (a : List (Value row_form)) (r : Value row_form) (b : List (Value row_form)) → v.1.1.1 ≡ a ++ (r ∷ b) → Placed a r
    row-placed a r b e =
        let g : (rows_from h no_rows (a ++ (r ∷ b))).good ≡ true = subst (λ (l : List (Value row_form)). (rows_from h no_rows l).good ≡ true) e good in
        let c = rows_from h no_rows a in
        let ga = before-good h no_rows a (r ∷ b) g in
        let f = fits_by c r b (sym (ap (λ (d : Rows). d.good) (rows_split h no_rows a (r ∷ b))) ∙ g) in
        let t = tested c r f in
        let ends = range-ends (lent h [] [] []) c.least (record { low = clamp r.0; up = clamp r.1.0; first = 0; runs = 0 }) t.range in
        let n = counted h (index_said v) (width_is v i) (windows-is v i) most a no_rows refl ga in
        let k : (runs_of r).count ≡ length r.1.1 = runs-count h.windows no_runs r.1.1 ∙ omega arith in
        let s = small-from a no_rows refl (record { runs = omega arith; taken = omega arith }) ga in
        let m = count-total h.windows no_runs r.1.1 (omega arith) t.runs in
        record {
          low = clamp-end r.0 ends.0;
          up = clamp-end r.1.0 ends.1;
          first = n.1 ∙ omega arith;
          count = k;
          small = omega (arith, n.1, k, s.runs, m, t.total, most);
        }

    held-from : (l : List (Value row_form)) (c : Rows) → c.good ≡ true → (rows_from h c l).good ≡ true
        → (map (λ (e : Entry). held e.0) (all_runs (map row_said l)) ≡ map (λ (e : Entry). nat_abs e.0) (all_runs (map row_said l))) × (map (λ (e : Entry). held e.1) (all_runs (map row_said l)) ≡ map (λ (e : Entry). nat_abs e.1) (all_runs (map row_said l)))
    unfolding rows_from all_runs
    held-from [] c g e = (refl, refl)
    held-from (r ∷ l) c g e =
        let f = fits_by c r l e in
        let t = tested c r f in
        let a = runs-are h.windows no_runs r.1.1 most refl in
        let k = entries-held h.windows 0 r.1.1 most (sym a.good ∙ t.runs) in
        let j = held-from l (row_next h c (clamp r.0) (clamp r.1.0) (runs_of r)) (next c r g f).good e in
        let more = all_runs (map row_said l) in
        (map-append (λ (e : Entry). held e.0) r.1.1 more ∙ rw (k.0, j.0) (sym (map-append (λ (e : Entry). nat_abs e.0) r.1.1 more)), map-append (λ (e : Entry). held e.1) r.1.1 more ∙ rw (k.1, j.1) (sym (map-append (λ (e : Entry). nat_abs e.1) r.1.1 more)))

    -- the ends of all runs
    pub runs-held : (map (λ (e : Entry). held e.0) (index_said v).runs ≡ map (λ (e : Entry). nat_abs e.0) (index_said v).runs) × (map (λ (e : Entry). held e.1) (index_said v).runs ≡ map (λ (e : Entry). nat_abs e.1) (index_said v).runs)
    unfolding index_said
    runs-held = held-from v.1.1.1 no_rows refl good
