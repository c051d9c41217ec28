-- What judging an index means: `first_bad_row` is none exactly if the index is well formed, as a record of facts (`well-formed`, `none-bad`), and else the place of the first bad row (`first-bad`, `bad-first`).
-- Each test is turned into its fact and back; a well-formed index has at most as many rows as runs, and runs as windows (`rows-at-most`, `runs-at-most`).
use Rattle.meaning_numbers.specs.{Order.within, Quotient.multiple, Sum.count, Place.any}
use Rattle.meaning_numbers.proofs.Prelude.{◌≡◌, refl, sym, ap, ◌∙◌, subst, ◌⊎◌, inl, inr, ⊎_elim, true, List, [], ◌∷◌, map, Option, None, Some, ℕ, zero, suc, ◌+◌, ◌<◌, ◌≤◌, arith, dec_le, ℤ, pos, negsuc, ◌+ℤ◌, nat_abs, length, get_or, take, length-take, length-drop, take-take, ◌≤ℤ◌, ◌<ℤ◌, le_z, lt_z, leb-true, eqb-true, le-leb, eq-eqb, lt-ltb, ltb-true, zarith, lt_z-true, le_z-true, lt-lt_z, by-test, both, of-both, clash}
use Rattle.meaning_numbers.proofs.{Count.count-cong, Member.All, Member.all-mem, Member.mem-at}
use Rattle.meaning_curves.specs.Limits.{end_in, lowest_end, most_values}
use Rattle.meaning_rows.specs.Judge.{head_good, runs_good, run_lengths, range_good, part_good, row_good, bad_row_from, first_bad_row, length_total}
use Rattle.meaning_rows.specs.{declared.Row.Row, Index.Index, Index.Entry, Index.runs_of, Index.in_run, Index.stands, Build.entry}
use Rattle.meaning_rows.proofs.{Range.le-le_z, Runs.Apart, Runs.entries-hold, Runs.held_in, Runs.lengths-count, Times.Range, Times.Ascending}

-- ---- limits

-- z is a natural number in its limits
pub record Natural (low high : ℕ) (z : ℤ) : Type 0 where
  pub is : z ≡ pos (nat_abs z)
  pub least : low ≤ nat_abs z
  pub most : nat_abs z ≤ high

pub between : (low high : ℕ) (z : ℤ) → within (pos low) (pos high) z ≡ true → Natural low high z
unfolding within
between low high (pos n) e = let b = both _ _ e in record { is = refl; least = leb-true low n b.0; most = leb-true n high b.1 }
between low high (negsuc n) e = clash e refl

pub is_within : (low high : ℕ) (z : ℤ) → Natural low high z → within (pos low) (pos high) z ≡ true
unfolding within
is_within low high (pos n) b = of-both (le-leb low n b.least) (le-leb n high b.most)
is_within low high (negsuc n) b = let e : ◌≡◌ {A = ℕ} 0 1 = cc b.is in absurd (omega arith)

pub record GoodHead (x : Index) : Type 0 where
  pub window : Natural 1 256 x.window
  pub width : Natural 1 1000000 x.width
  pub windows : Natural 1 most_values x.windows

pub good-head : (x : Index) → head_good x ≡ true → GoodHead x
unfolding head_good
good-head x e =
    let b = both _ _ e in
    let c = both _ _ b.1 in
    record { window = between 1 256 _ b.0; width = between 1 1000000 _ c.0; windows = between 1 most_values _ c.1 }

pub head-good : (x : Index) → GoodHead x → head_good x ≡ true
unfolding head_good
head-good x h =
    of-both (is_within 1 256 _ h.window) (of-both (is_within 1 1000000 _ h.width) (is_within 1 most_values _ h.windows))

-- ---- runs

-- run entries that are natural numbers, from a on, below n, ascending, not touching
pub record GoodRuns (n a : ℕ) (l : List Entry) : Type 0 where
  pub plain : List (ℕ × ℕ)
  pub is : l ≡ map entry plain
  pub apart : Apart n a plain

at_least : (a : ℕ) (z : ℤ) → le_z (pos a) z ≡ true → (z ≡ pos (nat_abs z)) × (a ≤ nat_abs z)
at_least a (pos n) e = (refl, leb-true a n e)
at_least a (negsuc n) e = clash e refl

pub good-runs : (n a : ℕ) (l : List Entry) → runs_good (pos n) (pos a) l ≡ true → GoodRuns n a l
unfolding runs_good Apart
good-runs n a [] e = record { plain = []; is = refl; apart = tt }
good-runs n a (x ∷ l) e =
    let b = both _ _ e in
    let c = both _ _ b.1 in
    let d = both (lt_z x.1 (pos n)) (runs_good (pos n) _ l) c.1 in
    let left = at_least a x.0 b.0 in
    let right = at_least _ x.1 (subst (λ z. le_z z x.1 ≡ true) left.0 c.0) in
    let after = good-runs n (nat_abs x.1 + 2) l (subst (λ z. runs_good (pos n) (z +ℤ pos 2) l ≡ true) right.0 d.1) in
    let same : x ≡ entry (nat_abs x.0, nat_abs x.1) = λ i. (left.0 i, right.0 i) in
    record {
      plain = (nat_abs x.0, nat_abs x.1) ∷ after.plain;
      is = cc (same, after.is);
      apart = (left.1, right.1, ltb-true _ n (rw right.0 at d.0), after.apart);
    }

apart-good : (n a : ℕ) (l : List (ℕ × ℕ)) → Apart n a l → runs_good (pos n) (pos a) (map entry l) ≡ true
unfolding runs_good Apart
apart-good n a [] p = refl
apart-good n a (x ∷ l) p =
    of-both (le-leb a x.0 p.0) (of-both (le-leb x.0 x.1 p.1) (of-both (lt-ltb x.1 n p.2) (apart-good n (x.1 + 2) l p.3)))

pub runs-good : (n a : ℕ) (l : List Entry) → GoodRuns n a l → runs_good (pos n) (pos a) l ≡ true
runs-good n a l g = rw g.is (apart-good n a g.plain g.apart)

-- ---- rows

-- an end of a range: a multiple of d inside its limits
pub record GoodEnd (d : ℕ) (z : ℤ) : Type 0 where
  pub divides : multiple d z ≡ true
  pub limited : end_in z ≡ true

-- what a good row is by itself
pub record GoodRow (x : Index) (r : Row) : Type 0 where
  pub wide : r.low <ℤ r.up
  pub low_end : GoodEnd (nat_abs x.width) r.low
  pub up-end : GoodEnd (nat_abs x.width) r.up
  pub some-run : 1 ≤ r.runs
  pub fits : r.first + r.runs ≤ length x.runs
  pub good : GoodRuns (nat_abs x.windows) 0 (runs_of x r)

-- and after rows that end at `least`, whose runs end at `first` and whose run lengths total `taken`
pub record NextRow (x : Index) (least : ℤ) (first taken : ℕ) (r : Row) : Type 0 where
  pub row : GoodRow x r
  pub order : least ≤ℤ r.low
  pub begins : r.first ≡ first
  pub total : taken + run_lengths (runs_of x r) ≤ nat_abs x.windows

unfoldable pub GoodRows : Index → ℤ → ℕ → ℕ → List Row → Type 0
GoodRows x least first taken [] = Unit {0}
GoodRows x least first taken (r ∷ l) = NextRow x least first taken r × GoodRows x r.up (first + r.runs) (taken + run_lengths (runs_of x r)) l

pub record WellFormed (x : Index) : Type 0 where
  pub head : GoodHead x
  pub rows : GoodRows x lowest_end 0 0 x.rows

is_some : {k : ℕ} → Some k ≡ None → ⊥
is_some e = let z : ◌≡◌ {A = ℕ} 0 1 = cc in omega arith

same_some : {m k : ℕ} → Some k ≡ Some m → m ≡ k
same_some e = cc

module _ (x : Index) (h : GoodHead x) where
  next_row : (least : ℤ) (first taken : ℕ) (r : Row) → row_good x least first taken r ≡ true → NextRow x least first taken r
  unfolding row_good range_good part_good
  next_row least first taken r e =
      let a = both _ _ e in
      let b = both _ _ a.0 in
      let c = both _ _ b.1 in
      let d = both _ _ c.1 in
      let f = both _ _ d.1 in
      let g = both _ _ f.1 in
      let k = both _ _ a.1 in
      let l = both _ _ k.0 in
      let m = both _ _ l.1 in
      let n = both _ _ k.1 in
      record {
        row = record {
          wide = lt_z-true b.0;
          low_end = record { divides = c.0; limited = f.0 };
          up-end = record { divides = d.0; limited = g.0 };
          some-run = leb-true _ _ l.0;
          fits = leb-true _ _ m.1;
          good = good-runs _ 0 _ (subst (λ (z : ℤ). runs_good z (pos 0) (runs_of x r) ≡ true) h.windows.is n.0);
        };
        order = le_z-true g.1;
        begins = eqb-true _ _ m.0;
        total = leb-true _ _ n.1;
      }

  row_next : (least : ℤ) (first taken : ℕ) (r : Row) → NextRow x least first taken r → row_good x least first taken r ≡ true
  unfolding row_good range_good part_good
  row_next least first taken r g =
      let o = g.row in
      of-both
      (of-both (lt-lt_z o.wide) (of-both o.low_end.divides (of-both o.up-end.divides (of-both o.low_end.limited (of-both o.up-end.limited (le-le_z g.order))))))
      (of-both (of-both (le-leb _ _ o.some-run) (of-both (eq-eqb _ _ g.begins) (le-leb _ _ o.fits)))
      (of-both (subst (λ (z : ℤ). runs_good z (pos 0) (runs_of x r) ≡ true) (sym h.windows.is) (runs-good _ 0 _ o.good)) (le-leb _ _ g.total)))

  good-from : (k : ℕ) (least : ℤ) (first taken : ℕ) (l : List Row) → bad_row_from x k least first taken l ≡ None → GoodRows x least first taken l
  unfolding bad_row_from GoodRows
  good-from k least first taken [] e = tt
  good-from k least first taken (r ∷ l) e = by-test _
      (λ t. (next_row least first taken r t, good-from (suc k) r.up _ _ l (rw t at e)))
      (λ f. absurd (is_some (rw f at e)))

  from-good : (k : ℕ) (least : ℤ) (first taken : ℕ) (l : List Row) → GoodRows x least first taken l → bad_row_from x k least first taken l ≡ None
  unfolding bad_row_from GoodRows
  from-good k least first taken [] g = refl
  from-good k least first taken (r ∷ l) g = rw (row_next least first taken r g.0) (from-good (suc k) r.up _ _ l g.1)

  -- the rows before the i-th are good, and with it they are not
  bad-from : (k m : ℕ) (least : ℤ) (first taken : ℕ) (l : List Row) → bad_row_from x k least first taken l ≡ Some m
      → (i : ℕ) × (m ≡ k + i) × (i < length l) × GoodRows x least first taken (take i l) × (GoodRows x least first taken (take (suc i) l) → ⊥)
  unfolding bad_row_from GoodRows
  bad-from k m least first taken [] e = absurd (is_some (sym e))
  bad-from k m least first taken (r ∷ l) e = by-test _
      (λ t. let b = bad-from (suc k) m r.up _ _ l (rw t at e) in
      (suc b.0, omega arith, omega arith, (next_row least first taken r t, b.3), λ g. b.4 g.1))
      (λ f. let i = same_some (rw f at e) in (0, omega arith, omega arith, tt, λ g. clash (row_next least first taken r g.0) f))

pub well-formed : (x : Index) → first_bad_row x ≡ None → WellFormed x
unfolding first_bad_row
well-formed x e = by-test _
    (λ t. let h = good-head x t in record { head = h; rows = good-from x h 0 lowest_end 0 0 _ (rw t at e) })
    (λ f. absurd (is_some (rw f at e)))

pub none-bad : (x : Index) → WellFormed x → first_bad_row x ≡ None
unfolding first_bad_row
none-bad x g = rw (head-good x g.head) (from-good x g.head 0 lowest_end 0 0 _ g.rows)

-- the rows up to but not including k are good rows, and those up to and including k are not
pub record FirstBad (x : Index) (k : ℕ) : Type 0 where
  pub head : GoodHead x
  pub is-row : k < length x.rows
  pub before : GoodRows x lowest_end 0 0 (take k x.rows)
  pub bad : GoodRows x lowest_end 0 0 (take (suc k) x.rows) → ⊥

pub first-bad : (x : Index) (k : ℕ) → first_bad_row x ≡ Some k → ((k ≡ 0) × (GoodHead x → ⊥)) ⊎ FirstBad x k
unfolding first_bad_row
first-bad x k e = by-test _
    (λ t. let h = good-head x t in let b = bad-from x h 0 k lowest_end 0 0 _ (rw t at e) in
    let i : b.0 ≡ k = omega arith in
    inr record { head = h; is-row = rw i at b.2; before = rw i at b.3; bad = rw i at b.4 })
    (λ f. inl (same_some (rw f at e), λ h. clash (head-good x h) f))

good-part : (x : Index) (i : ℕ) (least : ℤ) (first taken : ℕ) (l : List Row) → GoodRows x least first taken l → GoodRows x least first taken (take i l)
unfolding GoodRows
good-part x zero least first taken l g = tt
good-part x (suc i) least first taken [] g = tt
good-part x (suc i) least first taken (r ∷ l) g = (g.0, good-part x i r.up _ _ l g.1)

not_after : (x : Index) (k m : ℕ) → FirstBad x k → FirstBad x m → k ≤ m
not_after x k m f b = elim (dec_le k m) [
  | yes h ↦ h
  | no n ↦ let h : suc m ≤ k = omega arith in absurd (b.bad (rw (take-take (suc m) k _) at (good-part x (suc m) lowest_end 0 0 _ f.before)))
]

-- there is one first bad row, and it is said
pub bad-first : (x : Index) (k : ℕ) → FirstBad x k → first_bad_row x ≡ Some k
bad-first x k f = said _ refl
  where
    said : (o : Option ℕ) → first_bad_row x ≡ o → first_bad_row x ≡ Some k
    said None e = absurd (f.bad (good-part x (suc k) lowest_end 0 0 x.rows (well-formed x e).rows))
    said (Some m) e = ⊎_elim (λ h. absurd (h.1 f.head))
        (λ b. let a = not_after x k m f b in let c = not_after x m k b f in let same : m ≡ k = omega arith in e ∙ ap Some same) (first-bad x m e)

-- ---- what follows for the rows of a well-formed index

abbrev pub range_of : Row → Range
range_of r = (r.low, r.up)

-- how many runs some rows have, and their run lengths added up
unfoldable pub run_total : List Row → ℕ
run_total [] = 0
run_total (r ∷ l) = r.runs + run_total l

length-apart : (n a : ℕ) (l : List (ℕ × ℕ)) → Apart n a l → length (map entry l) ≤ run_lengths (map entry l)
unfolding Apart run_lengths
length-apart n a [] p = omega arith
length-apart n a (x ∷ l) p = omega (arith, length-apart n (x.1 + 2) l p.3)

module _ (x : Index) where
  pub length-runs_of : (r : Row) → r.first + r.runs ≤ length x.runs → length (runs_of x r) ≡ r.runs
  length-runs_of r h = simp (length-take, length-drop) (omega arith)

  pub runs-lengths : (r : Row) → GoodRow x r → r.runs ≤ run_lengths (runs_of x r)
  runs-lengths r g =
      omega (arith, length-runs_of r g.fits, subst (λ l. length l ≤ run_lengths l) (sym g.good.is) (length-apart (nat_abs x.windows) 0 g.good.plain g.good.apart))

  -- a row's windows are as many as its run lengths add up to
  pub lengths-are : (r : Row) → GoodRow x r → run_lengths (runs_of x r) ≡ count (stands x r) (nat_abs x.windows)
  lengths-are r g =
      let n = nat_abs x.windows in
      let m = g.good.plain in
      subst (λ (l : List Entry). run_lengths l ≡ count (λ j. any (in_run j) l) n) (sym g.good.is)
      (lengths-count n 0 m g.good.apart ∙ count-cong _ (λ j. any (in_run j) _) n (λ j b. sym (entries-hold m j)))

  -- a window that stands in a row is below the window count
  pub stands-below : (r : Row) (j : ℕ) → GoodRow x r → stands x r j ≡ true → j < nat_abs x.windows
  stands-below r j g t =
      let m = g.good.plain in
      (held_in _ 0 m j g.good.apart (sym (entries-hold m j) ∙ rw g.good.is at t)).1

  pub each-good : (least : ℤ) (first taken : ℕ) (l : List Row) → GoodRows x least first taken l → All (GoodRow x) l
  unfolding GoodRows All
  each-good least first taken [] g = tt
  each-good least first taken (r ∷ l) g = (g.0.row, each-good r.up _ _ l g.1)

  pub rows-ascend : (least : ℤ) (first taken : ℕ) (l : List Row) → GoodRows x least first taken l → Ascending least (map range_of l)
  unfolding GoodRows Ascending
  rows-ascend least first taken [] g = tt
  rows-ascend least first taken (r ∷ l) g = (g.0.order, g.0.row.wide, rows-ascend r.up _ _ l g.1)

  -- a row begins at or after the end of each row before it
  begins-after : (o : Row) (a : ℤ) (k : ℕ) (l : List Row) → k < length l → Ascending a (map range_of l) → a ≤ℤ (get_or l k o).low
  unfolding Ascending
  begins-after o a k [] h p = absurd (omega arith)
  begins-after o a zero (r ∷ l) h p = p.0
  begins-after o a (suc k) (r ∷ l) h p = let b = p.0 in let c = p.1 in let e = begins-after o r.up k l (omega arith) p.2 in omega zarith

  in_order : (o : Row) (a : ℤ) (i k : ℕ) (l : List Row) → i < k → k < length l → Ascending a (map range_of l) → (get_or l i o).up ≤ℤ (get_or l k o).low
  unfolding Ascending
  in_order o a i k [] b h p = absurd (omega arith)
  in_order o a i zero (r ∷ l) b h p = absurd (omega arith)
  in_order o a zero (suc k) (r ∷ l) b h p = begins-after o r.up k l (omega arith) p.2
  in_order o a (suc i) (suc k) (r ∷ l) b h p = in_order o r.up i k l (omega arith) (omega arith) p.2

  lengths-within : (least : ℤ) (first taken : ℕ) (l : List Row) → taken ≤ nat_abs x.windows → GoodRows x least first taken l → taken + length_total x l ≤ nat_abs x.windows
  unfolding GoodRows length_total
  lengths-within least first taken [] h g = omega arith
  lengths-within least first taken (r ∷ l) h g =
      omega (arith, lengths-within r.up _ _ l g.0.total g.1)

  runs-within : (l : List Row) → All (GoodRow x) l → (length l ≤ run_total l) × (run_total l ≤ length_total x l)
  unfolding All run_total length_total
  runs-within [] g = (omega arith, omega arith)
  runs-within (r ∷ l) g = let h = runs-within l g.1 in (omega (arith, g.0.some-run), omega (arith, runs-lengths r g.0))

  parts : (o : Row) (k : ℕ) (least : ℤ) (first taken : ℕ) (l : List Row) → k < length l → GoodRows x least first taken l → (get_or l k o).first ≡ first + run_total (take k l)
  unfolding GoodRows run_total
  parts o k least first taken [] h g = absurd (omega arith)
  parts o zero least first taken (r ∷ l) h g = omega arith
  parts o (suc k) least first taken (r ∷ l) h g = omega (arith, parts o k r.up _ _ l (omega arith) g.1)

  module _ (f : WellFormed x) where
    pub each_row : All (GoodRow x) x.rows
    each_row = each-good lowest_end 0 0 _ f.rows

    pub ranges-ascend : Ascending lowest_end (map range_of x.rows)
    ranges-ascend = rows-ascend lowest_end 0 0 x.rows f.rows

    pub row_at : (o : Row) (k : ℕ) → k < length x.rows → GoodRow x (get_or x.rows k o)
    row_at o k h = all-mem _ _ each_row (mem-at o _ k h)

    pub order-at : (o : Row) (i k : ℕ) → i < k → k < length x.rows → (get_or x.rows i o).up ≤ℤ (get_or x.rows k o).low
    order-at o i k b h = in_order o lowest_end i k x.rows b h ranges-ascend

    -- a row's runs begin where those of the rows before end
    pub first-at : (o : Row) (k : ℕ) → k < length x.rows → (get_or x.rows k o).first ≡ run_total (take k x.rows)
    first-at o k h = omega (arith, parts o k lowest_end 0 0 _ h f.rows)

    -- run lengths total at most the windows
    pub lengths-at-most : length_total x x.rows ≤ nat_abs x.windows
    lengths-at-most = omega (arith, lengths-within lowest_end 0 0 _ (omega arith) f.rows)

    pub rows-at-most : length x.rows ≤ nat_abs x.windows
    rows-at-most = omega (arith, runs-within _ each_row, lengths-at-most)

    pub runs-at-most : run_total x.rows ≤ nat_abs x.windows
    runs-at-most = omega (arith, runs-within _ each_row, lengths-at-most)
