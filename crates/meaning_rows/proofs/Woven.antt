-- The rows of an extension as one ascending walk over the old rows and the row numbers of the new windows: a number whose range an old row holds is skipped, any other makes a new row, and an old row
-- is kept (`weave-inside`, `weave-new`, `weave-old`). Laid out with their runs, the records that the walk makes are the rows of the extension (`woven-extended`).
use Rattle.meaning_numbers.specs.Place.{any}
use Rattle.meaning_numbers.proofs.Prelude.{◌≡◌, refl, sym, ap, ◌∙◌, subst, ⊎_elim, Bool, true, false, cond, not, List, [], ◌∷◌, map, List-as-Memᴰ as Mem, List·Memᴰ·head as here, List·Memᴰ·tail as there, List·Memᴰ·not-nil as not-nil, List·Memᴰ·cases-cons as cases, ℕ, suc, ◌+◌, ◌-◌, ◌<◌, ◌≤◌, arith, leb, ℤ, nat_abs, length, length-map, ◌≤ℤ◌, ◌<ℤ◌, lt_z, zarith, *ℤ-mono, lt-lt_z, le-lt_z, by-test, clash, get_or}
use Rattle.meaning_numbers.proofs.{Quotient.floor-most, Member.any-cong, Member.any-map, Member.All, Member.all-mem}
use Rattle.meaning_curves.specs.{Limits.lowest_end, Curve.window_sum, Curve.window_count}
use Rattle.meaning_rows.specs.Extend.{grown, new_numbers, added, insert_row, insert_rows, extended_rows, extended}
use Rattle.meaning_rows.specs.{declared.Row.Row, Range.row_number, Range.low_of, Range.up_of, Range.inside, Runs.runs, Index.Index, Index.zero_row, Index.RangeRow, Build.SetRow, Build.row_numbers, Build.row_at, Build.entry, Build.with_runs}
use Rattle.meaning_rows.proofs.Build.{range, Above, Sorted, mem-above, sorted-unique, numbers-sorted, numbers-mem, numbers-occur}
use Rattle.meaning_rows.proofs.Extend.{Extendable, rows, ascends, covers_new, extended-most, new-sorted, new-mem, new-occur, beside}
use Rattle.meaning_rows.proofs.{Range.inside-yes, Range.is-inside, Range.inside-below, Range.widen, Range.next_le, Range.row_below, Range.multiple-is, Runs.runs-cong, Times.Range, Times.holds, Times.Ascending, Judge.GoodEnd, Judge.WellFormed, Judge.range_of, Judge.each_row, Laid.length-records}

-- the record of a new row, which has no run yet
unfoldable pub new_row : ℕ → ℤ → Row
new_row d k = record { low = low_of d k; up = up_of d k; first = 0; runs = 0 }

-- some range holds the sum
abbrev pub held_by : List Row → ℤ → Bool
held_by rows z = any (λ r. inside r.low r.up z) rows

-- a row put among others, by the low ends of their ranges
unfoldable pub put : Row → List Row → List Row
put r [] = r ∷ []
put r (q ∷ l) = cond (lt_z r.low q.low) (r ∷ q ∷ l) (q ∷ put r l)

-- the rows, and a new one for each number whose range none of them holds
unfoldable pub woven : ℕ → List Row → List ℤ → List Row
woven d rows [] = rows
woven d rows (k ∷ ks) = cond (held_by rows (low_of d k)) (woven d rows ks) (put (new_row d k) (woven d rows ks))

-- ---- a turn of the walk

put-here : (r q : Row) (l : List Row) → lt_z r.low q.low ≡ true → put r (q ∷ l) ≡ r ∷ q ∷ l
unfolding put
put-here r q l t = rw t

put-later : (r q : Row) (l : List Row) → lt_z r.low q.low ≡ false → put r (q ∷ l) ≡ q ∷ put r l
unfolding put
put-later r q l f = rw f

put_first : (r : Row) (l : List Row) → All (λ q. r.low <ℤ q.low) l → put r l ≡ r ∷ l
unfolding put All
put_first r [] a = refl
put_first r (q ∷ l) a = put-here r q l (lt-lt_z a.0)

all-put : (P : Row → Type 0) (r : Row) (l : List Row) → P r → All P l → All P (put r l)
unfolding put All
all-put P r [] h a = (h, tt)
all-put P r (q ∷ l) h a = by-test _ (λ t. rw (put-here r q l t) (h, a)) (λ f. rw (put-later r q l f) (a.0, all-put P r l h a.1))

module _ (d : ℕ) where
  woven-held : (rows : List Row) (k : ℤ) (ks : List ℤ) → held_by rows (low_of d k) ≡ true → woven d rows (k ∷ ks) ≡ woven d rows ks
  unfolding woven
  woven-held rows k ks t = rw t

  woven-free : (rows : List Row) (k : ℤ) (ks : List ℤ) → held_by rows (low_of d k) ≡ false → woven d rows (k ∷ ks) ≡ put (new_row d k) (woven d rows ks)
  unfolding woven
  woven-free rows k ks f = rw f

  pub weave-none : (rows : List Row) → woven d rows [] ≡ rows
  unfolding woven
  weave-none rows = refl

  pub all-woven : (P : Row → Type 0) (rows : List Row) (ks : List ℤ) → All P rows → ((k : ℤ) → Mem k ks → P (new_row d k)) → All P (woven d rows ks)
  unfolding woven
  all-woven P rows [] a h = a
  all-woven P rows (k ∷ ks) a h = by-test _
      (λ t. rw (woven-held rows k ks t) (all-woven P rows ks a (λ z m. h z (there m))))
      (λ f. rw (woven-free rows k ks f) (all-put P _ _ (h k (here refl)) (all-woven P rows ks a (λ z m. h z (there m)))))

  length-put : (r : Row) (l : List Row) → length (put r l) ≡ suc (length l)
  unfolding put
  length-put r [] = refl
  length-put r (q ∷ l) = by-test _ (λ t. rw (put-here r q l t)) (λ f. rw (put-later r q l f) (ap suc (length-put r l)))

  -- no row is lost
  pub woven-long : (rows : List Row) (ks : List ℤ) → length rows ≤ length (woven d rows ks)
  unfolding woven
  woven-long rows [] = omega arith
  woven-long rows (k ∷ ks) = by-test _
      (λ t. rw (woven-held rows k ks t) (woven-long rows ks))
      (λ f. rw (woven-free rows k ks f) (omega (arith, length-put (new_row d k) (woven d rows ks), woven-long rows ks)))

  -- a number whose range the next row holds is skipped
  pub weave-inside : (r : Row) (rows : List Row) (k : ℤ) (ks : List ℤ) → r.low ≤ℤ low_of d k → low_of d k <ℤ r.up → woven d (r ∷ rows) (k ∷ ks) ≡ woven d (r ∷ rows) ks
  unfolding any
  weave-inside r rows k ks a b = woven-held _ k ks (rw (inside-yes _ r.up _ a b))

  free-below : (rows : List Row) (z : ℤ) → All (λ r. z <ℤ r.low) rows → held_by rows z ≡ false
  unfolding any All
  free-below [] z a = refl
  free-below (r ∷ rows) z a = rw (inside-below _ r.up z a.0) (free-below rows z a.1)

  skips : (r : Row) (rows : List Row) (z : ℤ) → inside r.low r.up z ≡ false → held_by (r ∷ rows) z ≡ held_by rows z
  unfolding any
  skips r rows z f = rw f

  goes_later : (r : Row) (l : List Row) (k : ℤ) → r.low ≤ℤ low_of d k → put (new_row d k) (r ∷ l) ≡ r ∷ put (new_row d k) l
  unfolding new_row
  goes_later r l k h = put-later _ r l (le-lt_z h)

  module _ (one : 0 < d) where
    low_up : (k z : ℤ) → k <ℤ z → low_of d k <ℤ low_of d z
    low_up k z h = let a = widen d k one in let b = next_le d k z h in omega zarith

    -- a number below the next row makes a new row
    pub weave-new : (rows : List Row) (k : ℤ) (ks : List ℤ) → All (λ r. low_of d k <ℤ r.low) rows → Above k ks → woven d rows (k ∷ ks) ≡ new_row d k ∷ woven d rows ks
    unfolding new_row
    weave-new rows k ks a s = woven-free rows k ks (free-below rows _ a)
        ∙ put_first _ _ (all-woven (λ q. low_of d k <ℤ q.low) rows ks a (λ z m. low_up k z (mem-above z k ks s m)))

    -- where all numbers lie above the next row, it is kept
    pub weave-old : (r : Row) (rows : List Row) (ks : List ℤ) → r.low <ℤ r.up → ((k : ℤ) → Mem k ks → r.up ≤ℤ low_of d k) → woven d (r ∷ rows) ks ≡ r ∷ woven d rows ks
    unfolding woven
    weave-old r rows [] w h = refl
    weave-old r rows (k ∷ ks) w h =
        let u = h k (here refl) in
        let low : r.low ≤ℤ low_of d k = omega zarith in
        let rest = weave-old r rows ks w (λ z m. h z (there m)) in
        let out : inside r.low r.up (low_of d k) ≡ false = by-test _ (λ t. let i = (is-inside _ r.up _ t).1 in absurd (omega zarith)) (λ f. f) in
        by-test _
        (λ t. woven-held _ k ks (skips r rows _ out ∙ t) ∙ rest ∙ ap (λ l. r ∷ l) (sym (woven-held rows k ks t)))
        (λ f. woven-free _ k ks (skips r rows _ out ∙ f) ∙ ap (put _) rest ∙ goes_later r _ k low ∙ ap (λ l. r ∷ l) (sym (woven-free rows k ks f)))

-- ---- the row numbers that no old range holds are those of the new windows that no old range holds

unfoldable keep : (ℤ → Bool) → List ℤ → List ℤ
keep p [] = []
keep p (k ∷ l) = cond (p k) (k ∷ keep p l) (keep p l)

keep-yes : (p : ℤ → Bool) (k : ℤ) (l : List ℤ) → p k ≡ true → keep p (k ∷ l) ≡ k ∷ keep p l
unfolding keep
keep-yes p k l t = rw t

keep-no : (p : ℤ → Bool) (k : ℤ) (l : List ℤ) → p k ≡ false → keep p (k ∷ l) ≡ keep p l
unfolding keep
keep-no p k l f = rw f

mem-keep : (p : ℤ → Bool) (z : ℤ) (l : List ℤ) → Mem z l → p z ≡ true → Mem z (keep p l)
mem-keep p z [] m t = absurd (not-nil m)
mem-keep p z (k ∷ l) m t = by-test (p k)
    (λ y. rw (keep-yes p k l y) (⊎_elim here (λ o. there (mem-keep p z l o t)) (cases m)))
    (λ f. rw (keep-no p k l f) (⊎_elim (λ e. clash (ap p (sym e) ∙ t) f) (λ o. mem-keep p z l o t) (cases m)))

keep-mem : (p : ℤ → Bool) (z : ℤ) (l : List ℤ) → Mem z (keep p l) → Mem z l × (p z ≡ true)
unfolding keep
keep-mem p z [] m = absurd (not-nil m)
keep-mem p z (k ∷ l) m = by-test (p k)
    (λ y. ⊎_elim (λ e. (here e, ap p e ∙ y)) (λ o. let r = keep-mem p z l o in (there r.0, r.1)) (cases (rw (keep-yes p k l y) at m)))
    (λ f. let r = keep-mem p z l (rw (keep-no p k l f) at m) in (there r.0, r.1))

above-keep : (p : ℤ → Bool) (z : ℤ) (l : List ℤ) → Above z l → Above z (keep p l)
unfolding keep Above
above-keep p z [] a = tt
above-keep p z (k ∷ l) a = by-test (p k) (λ y. rw (keep-yes p k l y) (a.0, above-keep p z l a.1)) (λ f. rw (keep-no p k l f) (above-keep p z l a.1))

keep-sorted : (p : ℤ → Bool) (l : List ℤ) → Sorted l → Sorted (keep p l)
unfolding keep Sorted
keep-sorted p [] s = tt
keep-sorted p (k ∷ l) s = by-test (p k) (λ y. rw (keep-yes p k l y) (above-keep p k l s.0, keep-sorted p l s.1)) (λ f. rw (keep-no p k l f) (keep-sorted p l s.1))

not-true : (t : Bool) → not t ≡ true → t ≡ false
not-true true h = sym h
not-true false h = refl

-- a range of whole row widths holds a sum exactly if it holds the low end of the sum's row
cell : (d : ℕ) (low up z : ℤ) → 0 < d → GoodEnd d low → GoodEnd d up → inside low up z ≡ inside low up (low_of d (row_number d z))
cell d low up z one a b =
    let k = row_number d z in
    let p = multiple-is d low a.divides in
    let wide = widen d k one in
    by-test _
    (λ t. let i = is-inside low up z t in
    let l = subst (λ t. t ≤ℤ low_of d k) (sym p.1) (*ℤ-mono d (floor-most p.0 z d one (rw p.1 at i.0))) in
    let under = row_below d z one in
    t ∙ sym (inside-yes low up _ l (omega zarith)))
    (λ f. f ∙ sym (by-test _
    (λ t. let i = is-inside low up (low_of d k) t in absurd (⊎_elim (λ e. omega zarith) (λ e. omega zarith) (beside d low up z one a b f)))
    (λ g. g)))

module _ (x : Index) (g : WellFormed x) where
  abbrev d : ℕ
  d = nat_abs x.width

  one : 0 < d
  one = omega arith

  abbrev free : ℤ → Bool
  free k = not (held_by x.rows (low_of d k))

  held-cell : (z : ℤ) → held_by x.rows z ≡ held_by x.rows (low_of d (row_number d z))
  held-cell z = any-cong _ _ _ (λ r m. let o = all-mem _ _ (each_row x g) m in cell d _ r.up z one o.low_end o.up-end)

  module _ (sum : ℕ → ℤ) (old : ℕ) where
    free-numbers : (more : ℕ) → new_numbers x sum d old more ≡ keep free (row_numbers (λ j. sum (old + j)) d more)
    free-numbers more =
        let later : ℕ → ℤ = λ j. sum (old + j) in
        sorted-unique (new_numbers x sum d old more) (keep free (row_numbers later d more)) (new-sorted x sum d old more) (keep-sorted free (row_numbers later d more) (numbers-sorted later d more))
        (λ z m. let a = new-occur x sum d old more z m in
        let j = a.at - old in
        let e : old + j ≡ a.at = omega arith in
        let is : row_number d (later j) ≡ z = rw e a.is in
        mem-keep free z (row_numbers later d more) (rw is at (numbers-mem later d more j (omega arith)))
        (ap not (ap (λ t. held_by x.rows (low_of d t)) (sym a.is) ∙ sym (held-cell (sum a.at)) ∙ a.unknown)))
        (λ z m. let k = keep-mem free z (row_numbers later d more) m in
        let o = numbers-occur later d more z k.0 in
        subst (λ t. Mem t (new_numbers x sum d old more)) o.is
        (new-mem x sum d old more (old + o.at) (omega arith) (omega arith)
        (held-cell (later o.at) ∙ ap (λ t. held_by x.rows (low_of d t)) o.is ∙ not-true (held_by x.rows (low_of d z)) k.1)))

-- ---- laid out with their runs

-- as `insert_row`, of rows with their runs
unfoldable among : RangeRow → List RangeRow → List RangeRow
among r [] = r ∷ []
among r (q ∷ l) = cond (lt_z r.low q.low) (r ∷ q ∷ l) (q ∷ among r l)

insert-among : (n : ℕ) (r : SetRow) (l : List SetRow) → map (with_runs n) (insert_row r l) ≡ among (with_runs n r) (map (with_runs n) l)
unfolding insert_row among with_runs
insert-among n r [] = refl
insert-among n r (q ∷ l) = by-test (lt_z r.low q.low) (λ t. rw t) (λ f. rw f (rw (insert-among n r l)))

module _ (x : Index) (sum : ℕ → ℤ) (old n : ℕ) where
  -- a row record with the runs of its old offsets and of the new windows that its range holds
  abbrev pub grown_runs : Row → RangeRow
  grown_runs r = with_runs n (grown x sum old r)

  put-among : (r : Row) (l : List Row) → map grown_runs (put r l) ≡ among (grown_runs r) (map grown_runs l)
  unfolding put among with_runs grown
  put-among r [] = refl
  put-among r (q ∷ l) = by-test (lt_z r.low q.low) (λ t. rw t) (λ f. rw f (rw (put-among r l)))

  -- a new row has the new windows that its range holds
  new-has : (d : ℕ) (k : ℤ) (j : ℕ) → (added sum d old k).has j ≡ (grown x sum old (new_row d k)).has j
  unfolding added row_at grown new_row any
  new-has d k j = by-test (leb old j) (λ t. rw t) (λ f. rw f)

  new-grown : (d : ℕ) (k : ℤ) → with_runs n (added sum d old k) ≡ grown_runs (new_row d k)
  unfolding with_runs added row_at grown new_row
  new-grown d k =
      λ i. record { low = low_of d k; up = up_of d k; runs = (ap (map entry) (runs-cong _ _ n (λ j b. new-has d k j))) i }

  weaves : (d : ℕ) (rows : List Row) (ks : List ℤ)
      → map (with_runs n) (insert_rows (map (added sum d old) (keep (λ k. not (held_by rows (low_of d k))) ks)) (map (grown x sum old) rows)) ≡ map grown_runs (woven d rows ks)
  unfolding insert_rows woven keep
  weaves d rows [] = map-twice rows
    where
      map-twice : (l : List Row) → map (with_runs n) (map (grown x sum old) l) ≡ map grown_runs l
      map-twice [] = refl
      map-twice (r ∷ l) = rw (map-twice l)
  weaves d rows (k ∷ ks) =
      let p : ℤ → Bool = λ k. not (held_by rows (low_of d k)) in
      by-test _
      (λ t. rw (keep-no p k ks (ap not t), woven-held d rows k ks t) (weaves d rows ks))
      (λ f. rw (keep-yes p k ks (ap not f), woven-free d rows k ks f)
      (insert-among n _ _
      ∙ ap (among _) (weaves d rows ks)
      ∙ ap (λ (r : RangeRow). among r (map grown_runs (woven d rows ks))) (new-grown d k)
      ∙ sym (put-among (new_row d k) (woven d rows ks))))

-- the rows of the extension are those that the walk makes, over all row numbers of the new windows
pub woven-extended : (x : Index) (sum : ℕ → ℤ) (n : ℕ) → WellFormed x
    → let old = nat_abs x.windows in let d = nat_abs x.width in
    extended_rows x sum n ≡ map (grown_runs x sum old n) (woven d x.rows (row_numbers (λ j. sum (old + j)) d (n - old)))
unfolding extended_rows
woven-extended x sum n g =
    let old = nat_abs x.windows in
    let d = nat_abs x.width in
    ap (λ (l : List ℤ). map (with_runs n) (insert_rows (map (added sum d old) l) (map (grown x sum old) x.rows))) (free-numbers x g sum old (n - old))
    ∙ weaves x sum old n d x.rows (row_numbers (λ j. sum (old + j)) d (n - old))

-- ---- the ranges

abbrev ends : RangeRow → Range
ends q = (q.low, q.up)

ends-runs : (n : ℕ) (l : List SetRow) → map range l ≡ map ends (map (with_runs n) l)
unfolding with_runs
ends-runs n [] = refl
ends-runs n (r ∷ l) = rw (ends-runs n l)

ends-grown : (x : Index) (sum : ℕ → ℤ) (old n : ℕ) (l : List Row) → map range_of l ≡ map ends (map (grown_runs x sum old n) l)
unfolding with_runs grown
ends-grown x sum old n [] = refl
ends-grown x sum old n (r ∷ l) = rw (ends-grown x sum old n l)

module _ (x : Index) (s : List ℤ) (g : WellFormed x) (e : Extendable x s) where
  abbrev sums : ℕ → ℤ
  sums = window_sum s (nat_abs x.window)

  abbrev count : ℕ
  count = window_count (length s) (nat_abs x.window)

  -- the records of the rows of the extension
  abbrev pub woven_rows : List Row
  woven_rows = woven (nat_abs x.width) x.rows (row_numbers (λ j. sums (nat_abs x.windows + j)) (nat_abs x.width) (count - nat_abs x.windows))

  same-ranges : map range_of woven_rows ≡ map range (rows x s g e)
  unfolding extended_rows
  same-ranges = ends-grown x sums (nat_abs x.windows) count woven_rows ∙ ap (map ends) (sym (woven-extended x sums count g)) ∙ sym (ends-runs count (rows x s g e))

  pub woven-ascends : Ascending lowest_end (map range_of woven_rows)
  woven-ascends = subst (Ascending lowest_end) (sym same-ranges) (ascends x s g e)

  -- each new window's sum lies in the range of a row
  pub woven-covers : (j : ℕ) → nat_abs x.windows ≤ j → j < count → held_by woven_rows (sums j) ≡ true
  woven-covers j a b =
      sym (any-map (holds (sums j)) range_of woven_rows) ∙ ap (any (holds (sums j))) same-ranges ∙ any-map (holds (sums j)) range (rows x s g e) ∙ covers_new x s g e j a b

  -- there are at most as many rows as windows
  pub woven-most : length woven_rows ≤ count
  unfolding extended
  woven-most =
      omega (arith, (extended-most x s g e).0, length-records 0 (extended_rows x sums count), ap length (woven-extended x sums count g), length-map woven_rows (grown_runs x sums (nat_abs x.windows) count))

-- ---- what an extension is spoken of by

-- the window length and row width, the old window count and the new, the sums; the rows that are made, how many, row i, and a row with its runs
pub record Extending : Type 0 where
  pub w : ℕ
  pub d : ℕ
  pub old : ℕ
  pub n : ℕ
  pub sum : ℕ → ℤ
  pub made : List Row
  pub size : ℕ
  pub at : ℕ → Row
  pub G : Row → RangeRow

abbrev pub extending : (x : Index) (s : List ℤ) (g : WellFormed x) → Extendable x s → Extending
extending x s g long = record {
  w = nat_abs x.window;
  d = nat_abs x.width;
  old = nat_abs x.windows;
  n = window_count (length s) (nat_abs x.window);
  sum = window_sum s (nat_abs x.window);
  made = woven_rows x s g long;
  size = length (woven_rows x s g long);
  at = λ i. get_or (woven_rows x s g long) i zero_row;
  G = grown_runs x (window_sum s (nat_abs x.window)) (nat_abs x.windows) (window_count (length s) (nat_abs x.window));
}
