-- The tally has the first bad row: numbers that the code's types do not hold become numbers outside every limit, so that a head, a run, a range and a row are judged as the meanings judge them (`text-bad`), and where the rows are good their counts are the text's (`rows-counted`).
use Rattle.meaning_numbers.specs.{Order.within, Quotient.multiple}
use Rattle.meaning_numbers.proofs.Prelude.{◌≡◌, refl, sym, ap, ◌∙◌, subst, Bool, true, false, cond, ◌&&◌, false≢true, List, [], ◌∷◌, map, None, Some, ℕ, suc, ◌+◌, ◌-◌, ◌<◌, ◌≤◌, arith, leb, ltb, ℤ, pos, negsuc, ◌+ℤ◌, nat_abs, length, length-append, length-map, le_z, lt_z, ◌≤ℤ◌, leb-true, le-leb, ltb-true, ltb-false, lt-ltb, le-ltb, eq-eqb, zmach, le-lt_z}
use Rattle.meaning_curves.specs.Limits.{end_in, lowest_end}
use Rattle.meaning_rows.specs.Index.{Index, Entry, RangeRow, lent, runs_of, records, all_runs}
use Rattle.meaning_rows.specs.Judge.{head_good, runs_good, run_lengths, range_good, part_good, row_good, bad_row_from, first_bad_row}
use Rattle.meaning_rows.specs.{declared.Head.Head, declared.Row.Row}
use Rattle.meaning_rows.proofs.{Judge.between, Laid.Lays, Laid.laid, Laid.length-records}
use Rattle.meaning_text.specs.{Form.Value, Texts.index_form, Texts.row_form, Texts.row_said, Texts.index_said}
use Rattle.meaning_text.proofs.Reading.{on-flag}
use Rattle.numbers.specs.Narrow.{clamp, held}
use Rattle.rows_judge.specs.Judged.{bad_row}
use Rattle.rows_judge.proofs.Scan.{both, run_good, good-run}
use Rattle.text_judge.specs.Tally.{no_runs, run_next, runs_from, no_rows, row_fits, row_next, rows_from, head_held}
use Rattle.text_judge.specs.{declared.Runs.Runs, declared.Rows.Rows, Judged.judged_rows}

-- two tests that pass in the same cases
same_flag : (a b : Bool) → (a ≡ true → b ≡ true) → (b ≡ true → a ≡ true) → a ≡ b
same_flag true b f g = sym (f refl)
same_flag false true f g = g refl
same_flag false false f g = refl

of-both : {a b : Bool} → a ≡ true → b ≡ true → (a && b) ≡ true
of-both e f = rw (e, f) refl

-- ---- numbers

pub held-pos : (n : ℕ) → n ≤ 4294967295 → held (pos n) ≡ n
unfolding held
held-pos n h = rw (le-ltb n 0 (omega arith), le-ltb 4294967295 n h) refl

held_high : (n : ℕ) → ltb 4294967295 n ≡ true → held (pos n) ≡ 4294967295
unfolding held
held_high n e = rw (le-ltb n 0 (omega arith), e) refl

held_below : (n : ℕ) → held (negsuc n) ≡ 4294967295
unfolding held
held_below n = refl

-- a number that is held and is not the greatest is itself
pub held-is : (z : ℤ) → held z < 4294967295 → z ≡ pos (held z)
held-is (pos n) h =
    on-flag _
    (λ e. absurd (omega (arith, held_high n e, h)))
    (λ e. ap pos (sym (held-pos n (ltb-false 4294967295 n e))))
held-is (negsuc n) h = absurd (omega (arith, held_below n, h))

at_least : (a : ℕ) (z : ℤ) → le_z (pos a) z ≡ true → (z ≡ pos (nat_abs z)) × (a ≤ nat_abs z)
at_least a (pos n) e = (refl, leb-true a n e)
at_least a (negsuc n) e = absurd (false≢true e)

pub held-nat : (z : ℤ) → z ≡ pos (nat_abs z) → nat_abs z ≤ 4294967295 → held z ≡ nat_abs z
held-nat z e h = ap held e ∙ held-pos _ h

-- a number in limits below the greatest is in them as it is held
within_held : (low high : ℕ) (z : ℤ) → high < 4294967295 → within (pos low) (pos high) z ≡ within (pos low) (pos high) (pos (held z))
within_held low high z h =
    same_flag _ _
    (λ e. let b = between low high z e in rw (b.is ∙ ap pos (sym (held-nat z b.is (omega (arith, h))))) at e)
    (λ e. let b = between low high (pos (held z)) e in subst (λ (y : ℤ). within (pos low) (pos high) y ≡ true) (sym (held-is z (omega (arith, h)))) e)

-- ---- runs

-- a run of whole numbers
abbrev pub entry_good : ℕ → ℕ → ℤ → ℤ → Bool
entry_good W a l r = le_z (pos a) l && (le_z l r && lt_z r (pos W))

run-to : (W a : ℕ) (l r : ℤ) → W ≤ 4294967295 → run_good W a (held l) (held r) ≡ true → entry_good W a l r ≡ true
run-to W a l r h e =
    let g = good-run W a _ _ e in
    rw (held-is l (omega (arith, h)), held-is r (omega (arith, h)))
    (of-both (le-leb a _ g.below) (of-both (le-leb _ _ g.order) (lt-ltb _ W g.inside)))

-- what a good run of whole numbers is
pub record GoodEntry (W a : ℕ) (l r : ℤ) : Type 0 where
  pub left : l ≡ pos (nat_abs l)
  pub right : r ≡ pos (nat_abs r)
  pub below : a ≤ nat_abs l
  pub order : nat_abs l ≤ nat_abs r
  pub inside : nat_abs r < W

pub good-entry : (W a : ℕ) (l r : ℤ) → entry_good W a l r ≡ true → GoodEntry W a l r
good-entry W a l r e =
    let b = both _ _ e in
    let c = both (le_z l r) _ b.1 in
    let x = at_least a l b.0 in
    let y = at_least _ r (rw x.0 at c.0) in
    record { left = x.0; right = y.0; below = x.1; order = y.1; inside = ltb-true _ W (rw y.0 at c.1) }

run-from : (W a : ℕ) (l r : ℤ) → W ≤ 4294967295 → entry_good W a l r ≡ true → run_good W a (held l) (held r) ≡ true
run-from W a l r h e =
    let g = good-entry W a l r e in
    rw (held-nat l g.left (omega (arith, h)), held-nat r g.right (omega (arith, h)))
    (of-both (le-leb a _ g.below) (of-both (le-leb _ _ g.order) (lt-ltb _ W g.inside)))

run-same : (W a : ℕ) (l r : ℤ) → W ≤ 4294967295 → run_good W a (held l) (held r) ≡ entry_good W a l r
run-same W a l r h = same_flag _ _ (run-to W a l r h) (run-from W a l r h)

-- tests in another order of brackets
pub three : (a b c d : Bool) → (a && (b && (c && d))) ≡ ((a && (b && c)) && d)
three true true c d = refl
three true false c d = refl
three false b c d = refl

pub runs-bad : (W : ℕ) (s : Runs) (l : List Entry) → s.good ≡ false → (runs_from W s l).good ≡ false
unfolding runs_from run_next
runs-bad W s [] e = e
runs-bad W s (x ∷ l) e = rw e (runs-bad W (record { count = s.count + 1; good = false; least = 0; total = 0 }) l refl)

pub runs-count : (W : ℕ) (s : Runs) (l : List Entry) → (runs_from W s l).count ≡ s.count + length l
unfolding runs_from run_next
runs-count W s [] = omega arith
runs-count W s (x ∷ l) =
    let n = run_next W s (held x.0) (held x.1) in
    let e : n.count ≡ s.count + 1 = on-flag (s.good && run_good W s.least (held x.0) (held x.1)) (λ e. rw e refl) (λ e. rw e refl) in
    omega (arith, runs-count W n l, e)

-- the runs are good where the meanings say so, and then their lengths total what the meanings say
pub record RunsAre (W : ℕ) (s : Runs) (l : List Entry) : Type 0 where
  pub good : (runs_from W s l).good ≡ runs_good (pos W) (pos s.least) l
  pub total : runs_good (pos W) (pos s.least) l ≡ true → (runs_from W s l).total ≡ s.total + run_lengths l

pub runs-are : (W : ℕ) (s : Runs) (l : List Entry) → W ≤ 4294967295 → s.good ≡ true → RunsAre W s l
unfolding runs_from run_next runs_good run_lengths
runs-are W s [] h g = record { good = g; total = λ e. omega arith }
runs-are W s (x ∷ l) h g =
    let m = run-same W s.least x.0 x.1 h in
    let more = three (le_z (pos s.least) x.0) (le_z x.0 x.1) (lt_z x.1 (pos W)) _ in
    on-flag _
    (λ e.
    let b = good-entry W s.least x.0 x.1 e in
    let hl = held-nat x.0 b.left (omega (arith, h)) in
    let hr = held-nat x.1 b.right (omega (arith, h)) in
    let n : Runs = record { count = s.count + 1; good = true; least = held x.1 + 2; total = s.total + (held x.1 + 1 - held x.0) } in
    let i = runs-are W n l h refl in
    let k : run_next W s (held x.0) (held x.1) ≡ n = rw (g, m ∙ e) refl in
    let q = ap (λ (z : ℤ). z +ℤ pos 2) (b.right ∙ ap pos (sym hr)) in
    let f = more ∙ rw (e, q) refl in
    record {
      good = ap (λ (u : Runs). (runs_from W u l).good) k ∙ i.good ∙ sym f;
      total = λ t. ap (λ (u : Runs). (runs_from W u l).total) k ∙ i.total (sym f ∙ t) ∙ rw (hl, hr) (omega arith);
    })
    (λ e.
    let n : Runs = record { count = s.count + 1; good = false; least = 0; total = 0 } in
    let k : run_next W s (held x.0) (held x.1) ≡ n = rw (g, m ∙ e) refl in
    let f : runs_good (pos W) (pos s.least) (x ∷ l) ≡ false = more ∙ rw e refl in
    record { good = ap (λ (u : Runs). (runs_from W u l).good) k ∙ runs-bad W n l refl ∙ sym f; total = λ t. absurd (false≢true (sym f ∙ t)) })

-- ---- ranges

-- an end inside its limits is held as it is
end-clamp : (z : ℤ) → end_in z ≡ true → clamp z ≡ z
unfolding within
end-clamp z e =
    let b = both (le_z lowest_end z) _ e in
    let low : negsuc 2147483647 ≤ℤ z = omega zmach in
    let high : z ≤ℤ pos 2147483647 = omega zmach in
    rw (le-lt_z low, le-lt_z high) refl

pub clamp-end : (z : ℤ) → end_in (clamp z) ≡ true → clamp z ≡ z
unfolding within
clamp-end z e =
    on-flag (lt_z z (negsuc 2147483647))
    (λ t. absurd (false≢true (rw t at e)))
    (λ t. on-flag (lt_z (pos 2147483647) z) (λ u. absurd (false≢true (rw (t, u) at e))) (λ u. rw (t, u) refl))

-- the two ends of a good range
pub range-ends : (x : Index) (least : ℤ) (r : Row) → range_good x least r ≡ true → (end_in r.low ≡ true) × (end_in r.up ≡ true)
unfolding range_good
range-ends x least r e =
    let a = both (lt_z r.low r.up) _ e in
    let b = both (multiple _ r.low) _ a.1 in
    let c = both (multiple _ r.up) _ b.1 in
    let d = both _ _ c.1 in
    (d.0, (both _ _ d.1).0)

module _ (h : Head) (x : Index) (width : nat_abs x.width ≡ h.width) (low up least : ℤ) (first runs : ℕ) where
  abbrev as_said : Row
  as_said = record { low = low; up = up; first = first; runs = runs }

  abbrev as-held : ℤ → ℤ → Row
  as-held a b = record { low = a; up = b; first = 0; runs = 0 }

  same_width : range_good x least as_said ≡ range_good (lent h [] [] []) least (as-held low up)
  unfolding range_good
  same_width = rw width refl

  range_same : range_good x least as_said ≡ range_good (lent h [] [] []) least (as-held (clamp low) (clamp up))
  range_same =
      same_flag _ _
      (λ e. let b = range-ends x least as_said e in ap (λ (a : ℤ). range_good (lent h [] [] []) least (as-held a (clamp up))) (end-clamp low b.0) ∙ ap (λ (a : ℤ). range_good (lent h [] [] []) least (as-held low a)) (end-clamp up b.1) ∙ sym same_width ∙ e)
      (λ e. let b = range-ends _ least (as-held _ (clamp up)) e in
      same_width ∙ sym (ap (λ (a : ℤ). range_good (lent h [] [] []) least (as-held a (clamp up))) (clamp-end low b.0) ∙ ap (λ (a : ℤ). range_good (lent h [] [] []) least (as-held low a)) (clamp-end up b.1)) ∙ e)

-- ---- rows

pub rows-stop : (h : Head) (c : Rows) (l : List (Value row_form)) → c.good ≡ false → ((rows_from h c l).good ≡ false) × ((rows_from h c l).rows ≡ c.rows)
unfolding rows_from row_next
rows-stop h c [] e = (e, refl)
rows-stop h c (r ∷ l) e = rw e (rows-stop h (record { good = false; rows = c.rows; runs = c.runs; least = pos 0; taken = 0 }) l refl)

module _ (h : Head) (x : Index) (width : nat_abs x.width ≡ h.width) (windows : x.windows ≡ pos h.windows) (most : h.windows ≤ 4294967295) where
  -- the runs of a row, as they are counted
  abbrev pub tallied : Value row_form → Runs
  tallied r = runs_from h.windows no_runs r.1.1

  abbrev placed : ℕ → Value row_form → Row
  placed k r = record { low = r.0; up = r.1.0; first = k; runs = length r.1.1 }

  total-same : (taken : ℕ) (r : Value row_form)
      → (runs_good x.windows (pos 0) r.1.1 && leb (taken + run_lengths r.1.1) (nat_abs x.windows)) ≡ ((tallied r).good && leb (taken + (tallied r).total) h.windows)
  total-same taken r =
      let a = runs-are h.windows no_runs r.1.1 most refl in
      rw (windows, a.good)
      (on-flag _
      (λ e. let t = a.total e ∙ omega arith in rw (e, t) refl)
      (λ e. rw e refl))

  -- a row of the text is judged as the tally judges it
  fits-same : (c : Rows) (r : Value row_form) → runs_of x (placed c.runs r) ≡ r.1.1 → c.runs + length r.1.1 ≤ length x.runs
      → row_good x c.least c.runs c.taken (placed c.runs r) ≡ row_fits h c (clamp r.0) (clamp r.1.0) (tallied r)
  unfolding row_good part_good
  fits-same c r e room =
      let n : (tallied r).count ≡ length r.1.1 = runs-count h.windows no_runs r.1.1 ∙ omega arith in
      rw (e, range_same h x width r.0 r.1.0 c.least c.runs (length r.1.1), eq-eqb c.runs c.runs refl, le-leb (c.runs + length r.1.1) (length x.runs) room, total-same c.taken r, n)
      (last-two (leb 1 (length r.1.1)) (range_good (lent h [] [] []) c.least (record { low = clamp r.0; up = clamp r.1.0; first = 0; runs = 0 })) ((tallied r).good && leb (c.taken + (tallied r).total) h.windows))
    where
      last-two : (a b d : Bool) → (b && ((a && true) && d)) ≡ (b && (a && d))
      last-two true b d = refl
      last-two false b d = refl

  -- after a good row the tally has what the meanings have
  pub record NextIs (c : Rows) (r : Value row_form) (n : Rows) : Type 0 where
    pub good : n.good ≡ true
    pub rows : n.rows ≡ suc c.rows
    pub runs : n.runs ≡ c.runs + length r.1.1
    pub least : n.least ≡ r.1.0
    pub taken : n.taken ≡ c.taken + run_lengths r.1.1

  pub next-is : (c : Rows) (r : Value row_form) → c.good ≡ true → row_fits h c (clamp r.0) (clamp r.1.0) (tallied r) ≡ true → NextIs c r (row_next h c (clamp r.0) (clamp r.1.0) (tallied r))
  unfolding row_next
  next-is c r g e =
      let a = runs-are h.windows no_runs r.1.1 most refl in
      let n : (tallied r).count ≡ length r.1.1 = runs-count h.windows no_runs r.1.1 ∙ omega arith in
      let row : Row = record { low = clamp r.0; up = clamp r.1.0; first = 0; runs = 0 } in
      let b = both (range_good (lent h [] [] []) c.least row) (leb 1 (tallied r).count && ((tallied r).good && leb (c.taken + (tallied r).total) h.windows)) e in
      let d = both (leb 1 (tallied r).count) ((tallied r).good && leb (c.taken + (tallied r).total) h.windows) b.1 in
      let f = both (tallied r).good (leb (c.taken + (tallied r).total) h.windows) d.1 in
      let t : (tallied r).total ≡ run_lengths r.1.1 = a.total (sym a.good ∙ f.0) ∙ omega arith in
      let u = clamp-end r.1.0 (range-ends (lent h [] [] []) c.least row b.0).1 in
      rw (g, e) (record { good = refl; rows = omega arith; runs = rw n refl; least = u; taken = rw t refl })

  bad-on : (k : ℕ) (least : ℤ) (first taken : ℕ) (r : Row) (l : List Row) → row_good x least first taken r ≡ true
      → bad_row_from x k least first taken (r ∷ l) ≡ bad_row_from x (suc k) r.up (first + r.runs) (taken + run_lengths (runs_of x r)) l
  unfolding bad_row_from
  bad-on k least first taken r l e = rw e refl

  bad-off : (k : ℕ) (least : ℤ) (first taken : ℕ) (r : Row) (l : List Row) → row_good x least first taken r ≡ false → bad_row_from x k least first taken (r ∷ l) ≡ Some k
  unfolding bad_row_from
  bad-off k least first taken r l e = rw e refl

  bad-same : (l : List RangeRow) (j k : ℕ) (a b : ℤ) (f g t u : ℕ) → j ≡ k → a ≡ b → f ≡ g → t ≡ u → bad_row_from x j a f t (records f l) ≡ bad_row_from x k b g u (records g l)
  bad-same l j k a b f g t u p q r s = rw (p, q, r, s) refl

  abbrev stopped : Rows → Rows
  stopped c = record { good = false; rows = c.rows; runs = c.runs; least = pos 0; taken = 0 }

  and-false : (a : Bool) → (a && false) ≡ false
  and-false true = refl
  and-false false = refl

  next-stopped : (c : Rows) (r : Value row_form) → row_fits h c (clamp r.0) (clamp r.1.0) (tallied r) ≡ false → row_next h c (clamp r.0) (clamp r.1.0) (tallied r) ≡ stopped c
  unfolding row_next
  next-stopped c r e = rw (e, and-false c.good) refl

  pub next-off : (c : Rows) (r : Value row_form) (l : List (Value row_form)) → row_fits h c (clamp r.0) (clamp r.1.0) (tallied r) ≡ false → ((rows_from h c (r ∷ l)).good ≡ false) × ((rows_from h c (r ∷ l)).rows ≡ c.rows)
  unfolding rows_from
  next-off c r l e =
      let n = next-stopped c r e in
      let s = rows-stop h _ l refl in
      (ap (λ (d : Rows). (rows_from h d l).good) n ∙ s.0, ap (λ (d : Rows). (rows_from h d l).rows) n ∙ s.1)

  -- the first bad row after rows that are good
  found : (l : List (Value row_form)) (c : Rows) → c.good ≡ true → Lays x.runs c.runs (map row_said l)
      → bad_row_from x c.rows c.least c.runs c.taken (records c.runs (map row_said l)) ≡ cond (rows_from h c l).good None (Some (rows_from h c l).rows)
  unfolding records rows_from Lays bad_row_from
  found [] c g o = rw g refl
  found (r ∷ l) c g o =
      let low = clamp r.0 in
      let up = clamp r.1.0 in
      let n = row_next h c low up (tallied r) in
      let more = map row_said l in
      let same = fits-same c r o.1 o.0 in
      on-flag (row_fits h c low up (tallied r))
      (λ e.
      let i = next-is c r g e in
      bad-on c.rows c.least c.runs c.taken (placed c.runs r) (records (c.runs + length r.1.1) more) (same ∙ e)
      ∙ bad-same more (suc c.rows) n.rows r.1.0 n.least (c.runs + length r.1.1) n.runs (c.taken + run_lengths (runs_of x (placed c.runs r))) n.taken (sym i.rows) (sym i.least) (sym i.runs) (ap (λ (q : List Entry). c.taken + run_lengths q) o.1 ∙ sym i.taken)
      ∙ found l n i.good (subst (λ (k : ℕ). Lays x.runs k more) (sym i.runs) o.2))
      (λ e.
      let q = next-off c r l e in
      bad-off c.rows c.least c.runs c.taken (placed c.runs r) (records (c.runs + length r.1.1) more) (same ∙ e) ∙ rw (q.0, q.1) refl)

  -- how many rows and runs there are, where all are good
  pub counted : (l : List (Value row_form)) (c : Rows) → c.good ≡ true → (rows_from h c l).good ≡ true → ((rows_from h c l).rows ≡ c.rows + length l) × ((rows_from h c l).runs ≡ c.runs + length (all_runs (map row_said l)))
  unfolding rows_from all_runs
  counted [] c g e = (omega arith, omega arith)
  counted (r ∷ l) c g e =
      on-flag (row_fits h c (clamp r.0) (clamp r.1.0) (tallied r))
      (λ t.
      let i = next-is c r g t in
      let j = counted l (row_next h c (clamp r.0) (clamp r.1.0) (tallied r)) i.good e in
      (omega arith, omega (arith, j.1, i.runs, length-append r.1.1 (all_runs (map row_said l)))))
      (λ t. absurd (false≢true (sym (next-off c r l t).0 ∙ e)))

-- ---- the whole text

module _ (v : Value index_form) where
  abbrev X : Index
  X = index_said v

  abbrev h : Head
  h = head_held v

  -- what the rows come to
  abbrev pub c : Rows
  c = rows_from h no_rows v.1.1.1

  pub head-same : head_good X ≡ head_good (lent h [] [] [])
  unfolding head_good index_said
  head-same = rw (within_held 1 256 v.0 (omega arith), within_held 1 1000000 v.1.0 (omega arith), within_held 1 1048576 v.1.1.0 (omega arith)) refl

  -- a good head is held as it is
  pub record HeadIs : Type 0 where
    pub window : v.0 ≡ pos h.window
    pub width : v.1.0 ≡ pos h.width
    pub windows : v.1.1.0 ≡ pos h.windows
    pub most : h.windows ≤ 1048576

  pub head-is : head_good (lent h [] [] []) ≡ true → HeadIs
  unfolding head_good
  head-is e =
      let a = both _ _ e in
      let b = both _ _ a.1 in
      let x = between 1 256 _ a.0 in
      let y = between 1 1000000 _ b.0 in
      let z = between 1 1048576 _ b.1 in
      record {
        window = held-is v.0 (omega arith);
        width = held-is v.1.0 (omega arith);
        windows = held-is v.1.1.0 (omega arith);
        most = z.most;
      }

  pub width_is : HeadIs → nat_abs X.width ≡ h.width
  unfolding index_said
  width_is i = ap nat_abs i.width

  pub windows-is : HeadIs → X.windows ≡ pos h.windows
  unfolding index_said
  windows-is i = i.windows

  rows-lay : Lays X.runs 0 (map row_said v.1.1.1)
  unfolding index_said
  rows-lay = laid _

  rows_are : X.rows ≡ records 0 (map row_said v.1.1.1)
  unfolding index_said
  rows_are = refl

  -- 01, 20: the first bad row; 0 for the head
  pub text-bad : first_bad_row X ≡ cond (head_good (lent h [] [] [])) (cond c.good None (Some c.rows)) (Some 0)
  unfolding first_bad_row
  text-bad =
      rw head-same
      (on-flag (head_good (lent h [] [] []))
      (λ e. let i = head-is e in rw e (ap (bad_row_from X 0 lowest_end 0 0) rows_are ∙ found h X (width_is i) (windows-is i) (omega arith) v.1.1.1 no_rows refl rows-lay))
      (λ e. rw e refl))

  -- what judging the text said is the first bad row
  pub rows-judged : bad_row (judged_rows h c) ≡ first_bad_row X
  unfolding judged_rows bad_row
  rows-judged = on-flag (head_good (lent h [] [] [])) (λ e. on-flag c.good (λ g. rw (e, g) (sym (text-bad ∙ rw (e, g) refl))) (λ g. rw (e, g) (sym (text-bad ∙ rw (e, g) refl)))) (λ e. rw e (sym (text-bad ∙ rw e refl)))

  pub rows-good : first_bad_row X ≡ None → (head_good (lent h [] [] []) ≡ true) × (c.good ≡ true)
  rows-good n = on-flag (head_good (lent h [] [] []))
      (λ e. on-flag c.good (λ g. (e, g)) (λ g. let q : Some c.rows ≡ None = sym (text-bad ∙ rw (e, g) refl) ∙ n in let z : ◌≡◌ {A = ℕ} 0 1 = cc in absurd (omega arith)))
      (λ e. let q : Some 0 ≡ None = sym (text-bad ∙ rw e refl) ∙ n in let z : ◌≡◌ {A = ℕ} 0 1 = cc in absurd (omega arith))

  -- where the rows are good they are all counted, and their runs
  pub rows-counted : head_good (lent h [] [] []) ≡ true → c.good ≡ true → (c.rows ≡ length X.rows) × (c.runs ≡ length X.runs)
  unfolding index_said
  rows-counted e g =
      let i = head-is e in
      let n = counted h X (width_is i) (windows-is i) (omega arith) v.1.1.1 no_rows refl g in
      (n.0 ∙ omega (arith, length-records 0 (map row_said v.1.1.1), length-map v.1.1.1 row_said), n.1 ∙ omega arith)
