-- Extending a well-formed index over a longer series: old ranges are kept, with their old windows (`extended-kept`), other rows are new (`extended-only`), and each new window stands in
-- exactly one row, which holds its sum (`extended-new`). The result is well formed (`extended-well-formed`), is filed right if the old index was (`extended-filed`), and for as many windows is
-- a copy (`extended-copy`). New rows go beside the old, whose ranges are whole numbers of row widths.
use Rattle.meaning_numbers.specs.{Sum.count, Place.any}
use Rattle.meaning_numbers.proofs.Member.{any-mem, any_found, none_any, mem-map, map-mem, All, all-mem, mem-all}
use Rattle.meaning_numbers.proofs.Prelude.{◌≡◌, refl, sym, ap, ◌∙◌, subst, ◌⊎◌, inl, inr, ⊎_elim, Bool, true, false, ◌&&◌, List, [], ◌∷◌, map, List-as-Memᴰ as Mem, List·Memᴰ·head as here, List·Memᴰ·tail as there, List·Memᴰ·not-nil as not-nil, List·Memᴰ·cases-cons as cases, None, ℕ, zero, suc, ◌+◌, ◌-◌, ◌<◌, ◌≤◌, arith, dec_lt, ltb, ℤ, pos, nat_abs, length, take, ◌≤ℤ◌, ◌<ℤ◌, lt_z, le-leb, lt-leb, lt-ltb, zarith, *ℤ-mono, lt_z-true, lt_z-false, by-test, clash}
use Rattle.meaning_numbers.proofs.{Quotient.floor-most, Count.count-cong, Count.count-never}
use Rattle.meaning_curves.specs.{Limits.most_values, Limits.first_outside, Limits.lowest_end, Curve.window_sum, Curve.window_count}
use Rattle.meaning_rows.specs.Extend.{grown, known, new_numbers, added, insert_row, insert_rows, extended_rows, extended}
use Rattle.meaning_rows.specs.Index.{Index, Entry, covered, runs_of, in_run, stands, range_row, range_rows, records, all_runs}
use Rattle.meaning_rows.specs.{declared.Row.Row, Range.row_number, Range.low_of, Range.up_of, Range.inside, Runs.runs, Build.SetRow, Build.insert, Build.row_at, Build.entry, Build.with_runs, Judge.run_lengths, Judge.length_total}
use Rattle.meaning_rows.proofs.Build.{range, sets, holds_sum, Exact, exact-once, Ends, Occupied, Sorted, mem-above, insert-sorted, insert-mem, insert-keeps, insert-only}
use Rattle.meaning_rows.proofs.Judge.{GoodEnd, GoodRow, WellFormed, range_of, lengths-are, length-runs_of, each_row, ranges-ascend, lengths-at-most, rows-at-most, runs-at-most, run_total}
use Rattle.meaning_rows.proofs.{Range.where-is, Range.inside-yes, Range.widen, Range.next_le, Range.row_before, Range.in-own, Range.multiple-is, Runs.Apart, Runs.held, Runs.runs-cong, Runs.apart-runs, Runs.entries-hold, Times.Ascending, Times.times, Times.sizes, Times.sizes-once, Audit.Home, Audit.Filed, Laid.rows_back, Laid.laid-again, Laid.length-all_runs, Sets.Sound, Sets.Shows, Sets.sets-well-formed, Sets.sets-home, Sets.shows-row, Sets.row_shows, Sets.once-any, Sets.end-least, Sums.ends-good, Sums.sum-of-part}

-- ---- rows put among others

pub insert-here : (r q : SetRow) (l : List SetRow) → lt_z r.low q.low ≡ true → insert_row r (q ∷ l) ≡ r ∷ q ∷ l
unfolding insert_row
insert-here r q l t = rw t

pub insert-later : (r q : SetRow) (l : List SetRow) → lt_z r.low q.low ≡ false → insert_row r (q ∷ l) ≡ q ∷ insert_row r l
unfolding insert_row
insert-later r q l f = rw f

all_insert : (P : SetRow → Type 0) (r : SetRow) (l : List SetRow) → P r → All P l → All P (insert_row r l)
unfolding insert_row All
all_insert P r [] h a = (h, tt)
all_insert P r (q ∷ l) h a = by-test _ (λ t. rw (insert-here r q l t) (h, a)) (λ f. rw (insert-later r q l f) (a.0, all_insert P r l h a.1))

all-inserts : (P : SetRow → Type 0) (new old : List SetRow) → All P new → All P old → All P (insert_rows new old)
unfolding insert_rows All
all-inserts P [] old a b = b
all-inserts P (r ∷ new) old a b = all_insert P r _ a.0 (all-inserts P new old a.1 b)

mem-insert : (q r : SetRow) (l : List SetRow) → (q ≡ r) ⊎ Mem q l → Mem q (insert_row r l)
unfolding insert_row
mem-insert q r [] m = ⊎_elim here there m
mem-insert q r (p ∷ l) m = by-test _
    (λ t. rw (insert-here r p l t) (⊎_elim here there m))
    (λ f. rw (insert-later r p l f) (⊎_elim (λ e. there (mem-insert q r l (inl e))) (λ n. ⊎_elim here (λ o. there (mem-insert q r l (inr o))) (cases n)) m))

mem-inserts : (q : SetRow) (new old : List SetRow) → Mem q new ⊎ Mem q old → Mem q (insert_rows new old)
unfolding insert_rows
mem-inserts q [] old m = ⊎_elim (λ n. absurd (not-nil n)) (λ o. o) m
mem-inserts q (r ∷ new) old m = mem-insert q r _
    (⊎_elim (λ n. ⊎_elim inl (λ o. inr (mem-inserts q new old (inl o))) (cases n)) (λ o. inr (mem-inserts q new old (inr o))) m)

sizes-insert : (n : ℕ) (r : SetRow) (l : List SetRow) → sizes (sets (insert_row r l)) n ≡ count r.has n + sizes (sets l) n
unfolding insert_row sizes
sizes-insert n r [] = refl
sizes-insert n r (q ∷ l) = by-test _ (λ t. rw (insert-here r q l t)) (λ f. rw (insert-later r q l f) (omega (arith, sizes-insert n r l)))

sizes-inserts : (n : ℕ) (new old : List SetRow) → sizes (sets (insert_rows new old)) n ≡ sizes (sets new) n + sizes (sets old) n
unfolding insert_rows sizes
sizes-inserts n [] old = omega arith
sizes-inserts n (r ∷ new) old = omega (arith, sizes-insert n r (insert_rows new old), sizes-inserts n new old)

-- two ranges that do not overlap
abbrev Beside : SetRow → SetRow → Type 0
Beside r q = (r.up ≤ℤ q.low) ⊎ (q.up ≤ℤ r.low)

insert-ascends : (a : ℤ) (r : SetRow) (l : List SetRow) → a ≤ℤ r.low → r.low <ℤ r.up → All (Beside r) l → Ascending a (map range l) → Ascending a (map range (insert_row r l))
unfolding insert_row Ascending All
insert-ascends a r [] h w b p = (h, w, tt)
insert-ascends a r (q ∷ l) h w b p = by-test _
    (λ t. let c = lt_z-true {a = r.low} t in rw (insert-here r q l t) (h, w, ((⊎_elim (λ e. e) (λ e. absurd (omega zarith)) b.0), p.1, p.2)))
    (λ f. let c = lt_z-false {a = r.low} f in rw (insert-later r q l f) (p.0, p.1, insert-ascends q.up r l (⊎_elim (λ e. absurd (omega zarith)) (λ e. e) b.0) w b.1 p.2))

-- ---- the row numbers of new windows that no old range holds

pub record NewAt (x : Index) (sum : ℕ → ℤ) (d old end : ℕ) (k : ℤ) : Type 0 where
  pub at : ℕ
  pub new : old ≤ at
  pub below : at < end
  pub unknown : known x (sum at) ≡ false
  pub is : row_number d (sum at) ≡ k

module _ (x : Index) (sum : ℕ → ℤ) (d old : ℕ) where
  new-known : (more : ℕ) → known x (sum (old + more)) ≡ true → new_numbers x sum d old (suc more) ≡ new_numbers x sum d old more
  unfolding new_numbers
  new-known more t = rw t

  new-unknown : (more : ℕ) → known x (sum (old + more)) ≡ false → new_numbers x sum d old (suc more) ≡ insert (row_number d (sum (old + more))) (new_numbers x sum d old more)
  unfolding new_numbers
  new-unknown more f = rw f

  pub new-sorted : (more : ℕ) → Sorted (new_numbers x sum d old more)
  unfolding new_numbers Sorted
  new-sorted zero = tt
  new-sorted (suc more) = by-test _
      (λ t. rw (new-known more t) (new-sorted more))
      (λ f. rw (new-unknown more f) (insert-sorted _ _ (new-sorted more)))

  pub new-mem : (more j : ℕ) → old ≤ j → j < old + more → known x (sum j) ≡ false → Mem (row_number d (sum j)) (new_numbers x sum d old more)
  new-mem zero j a b u = absurd (omega arith)
  new-mem (suc more) j a b u =
      let k = row_number d _ in
      let l = new_numbers x sum d old more in
      elim (dec_lt j (old + more)) [
        | yes h ↦ by-test _ (λ t. rw (new-known more t) (new-mem more j a h u)) (λ f. rw (new-unknown more f) (insert-keeps _ k l (new-mem more j a h u)))
        | no f ↦ let e : j ≡ old + more = omega arith in rw (new-unknown more (rw e at u), e) (insert-mem k l)
      ]

  pub new-occur : (more : ℕ) (k : ℤ) → Mem k (new_numbers x sum d old more) → NewAt x sum d old (old + more) k
  unfolding new_numbers
  new-occur zero k m = absurd (not-nil m)
  new-occur (suc more) k m = by-test _
      (λ t. later (new-occur more k (rw (new-known more t) at m)))
      (λ f. ⊎_elim (λ e. record { at = old + more; new = omega arith; below = omega arith; unknown = f; is = sym e }) (λ o. later (new-occur more k o))
      (insert-only k _ _ (rw (new-unknown more f) at m)))
    where
      later : NewAt x sum d old (old + more) k → NewAt x sum d old (old + suc more) k
      later r = record { at = r.at; new = r.new; below = omega arith; unknown = r.unknown; is = r.is }

-- ---- old rows and new rows

-- what a longer series must be
pub record Extendable (x : Index) (s : List ℤ) : Type 0 where
  pub longer : nat_abs x.windows ≤ window_count (length s) (nat_abs x.window)
  pub short : length s ≤ most_values
  pub values : first_outside s ≡ None

-- a good row has a window
some-member : (n : ℕ) (l : List (ℕ × ℕ)) → Apart n 0 l → 1 ≤ length (map entry l) → (j : ℕ) × (j < n) × (held l j ≡ true)
unfolding Apart held
some-member n [] p h = absurd (omega arith)
some-member n (e ∷ l) p h = (e.0, omega arith, rw (le-leb e.0 e.0 (omega arith), le-leb e.0 e.1 p.1))

good-member : (x : Index) (r : Row) → GoodRow x r → (j : ℕ) × (j < nat_abs x.windows) × (stands x r j ≡ true)
good-member x r g =
    let m = g.good.plain in
    let h = some-member _ m g.good.apart (subst (λ l. 1 ≤ length l) g.good.is (omega (arith, length-runs_of x r g.fits, g.some-run))) in
    (h.0, h.1, subst (λ l. any (in_run h.0) l ≡ true) (sym g.good.is) (entries-hold m h.0 ∙ h.2))

module _ (x : Index) (sum : ℕ → ℤ) (old : ℕ) where
  pub grown-new : (r : Row) (j : ℕ) → old ≤ j → (grown x sum old r).has j ≡ inside r.low r.up (sum j)
  unfolding grown
  grown-new r j h = rw (le-leb old j h)

  pub grown-old : (r : Row) (j : ℕ) → j < old → (grown x sum old r).has j ≡ stands x r j
  unfolding grown
  grown-old r j h = rw (lt-leb old j h)

  grown-ranges : (l : List Row) → map range (map (grown x sum old) l) ≡ map range_of l
  unfolding grown
  grown-ranges [] = refl
  grown-ranges (r ∷ l) = rw (grown-ranges l)

  added_new : (d : ℕ) (k : ℤ) (j : ℕ) → old ≤ j → (added sum d old k).has j ≡ inside (low_of d k) (up_of d k) (sum j)
  unfolding added row_at
  added_new d k j h = rw (le-leb old j h)

  added-old : (d : ℕ) (k : ℤ) (j : ℕ) → j < old → (added sum d old k).has j ≡ false
  unfolding added
  added-old d k j h = rw (lt-leb old j h)

  sizes-added : (d : ℕ) (ks : List ℤ) → sizes (sets (map (added sum d old) ks)) old ≡ 0
  unfolding sizes
  sizes-added d [] = refl
  sizes-added d (k ∷ ks) = omega (arith, count-never _ old (λ j b. added-old d k j b), sizes-added d ks)

  sizes-grown : (l : List Row) → nat_abs x.windows ≡ old → All (GoodRow x) l → sizes (sets (map (grown x sum old) l)) old ≡ length_total x l
  unfolding sizes All length_total
  sizes-grown [] e g = refl
  sizes-grown (r ∷ l) e g =
      let h : run_lengths (runs_of x r) ≡ count (stands x r) old = rw e at (lengths-are x r g.0) in
      omega (arith, h, count-cong _ _ old (λ j b. grown-old r j b), sizes-grown l e g.1)

-- a new row lies beside each row whose range does not hold the sum that it was made for
pub beside : (d : ℕ) (low up z : ℤ) → 0 < d → GoodEnd d low → GoodEnd d up → inside low up z ≡ false
    → (up_of d (row_number d z) ≤ℤ low) ⊎ (up ≤ℤ low_of d (row_number d z))
beside d low up z one a b f =
    let p = multiple-is d low a.divides in
    let q = multiple-is d up b.divides in
    where-is low up z
    (λ h. inl (rw p.1 (next_le d (row_number d z) p.0 (row_before d p.0 z one (rw p.1 at h)))))
    (λ h l. clash (inside-yes low up z h l) f)
    (λ h l. inr (rw q.1 (*ℤ-mono d (floor-most q.0 z d one (rw q.1 at l)))))

module _ (sum : ℕ → ℤ) (d old : ℕ) (one : 0 < d) (rows : List SetRow) where
  inserts-ascends : (a : ℤ) (ks : List ℤ) → Sorted ks → ((k : ℤ) → Mem k ks → (a ≤ℤ low_of d k) × All (Beside (added sum d old k)) rows)
      → Ascending a (map range rows) → Ascending a (map range (insert_rows (map (added sum d old) ks) rows))
  unfolding insert_rows Sorted added row_at
  inserts-ascends a [] s h p = p
  inserts-ascends a (k ∷ ks) s h p =
      let r = added sum d old k in
      let f = h k (here refl) in
      insert-ascends a r _ f.0 (widen d k one)
      (all-inserts _ _ rows
      (mem-all _ _ (λ q m. let i = map-mem (added sum d old) ks m in
      subst (Beside r) (sym i.same) (inl (next_le d k _ (mem-above _ k ks s.0 i.is)))))
      f.1)
      (inserts-ascends a ks s.1 (λ l m. h l (there m)) p)

-- row q of y is row r of x, with its range and its old windows
pub record Kept (x y : Index) (r q : Row) : Type 0 where
  pub low : q.low ≡ r.low
  pub up : q.up ≡ r.up
  pub windows : (j : ℕ) → j < nat_abs x.windows → stands y q j ≡ stands x r j

-- row q of y is a row of width d with no old window
pub record NewRow (x y : Index) (q : Row) : Type 0 where
  pub number : ℤ
  pub low : q.low ≡ low_of (nat_abs x.width) number
  pub up : q.up ≡ up_of (nat_abs x.width) number
  pub no_old : (j : ℕ) → j < nat_abs x.windows → stands y q j ≡ false

module _ (x : Index) (s : List ℤ) (g : WellFormed x) (e : Extendable x s) where
  abbrev w : ℕ
  w = nat_abs x.window

  abbrev d : ℕ
  d = nat_abs x.width

  abbrev old : ℕ
  old = nat_abs x.windows

  abbrev n : ℕ
  n = window_count (length s) w

  abbrev sum : ℕ → ℤ
  sum = window_sum s w

  abbrev numbers : List ℤ
  numbers = new_numbers x sum d old (n - old)

  abbrev news : List SetRow
  news = map (added sum d old) numbers

  abbrev olds : List SetRow
  olds = map (grown x sum old) x.rows

  abbrev pub rows : List SetRow
  rows = insert_rows news olds

  one : 0 < d
  one = omega arith

  end_is : old + (n - old) ≡ n
  end_is = omega arith

  each-new : (P : SetRow → Type 0) → ((k : ℤ) → NewAt x sum d old n k → P (added sum d old k)) → All P news
  each-new P h = mem-all P news (λ q m. let i = map-mem _ numbers m in
      subst P (sym i.same) (h _ (rw end_is at (new-occur x sum d old _ _ i.is))))

  each-old : (P : SetRow → Type 0) → ((r : Row) → Mem r x.rows → GoodRow x r → P (grown x sum old r)) → All P olds
  each-old P h = mem-all P olds (λ q m. let i = map-mem _ x.rows m in
      subst P (sym i.same) (h _ i.is (all-mem _ x.rows (each_row x g) i.is)))

  each : (P : SetRow → Type 0) → ((k : ℤ) → NewAt x sum d old n k → P (added sum d old k)) → ((r : Row) → Mem r x.rows → GoodRow x r → P (grown x sum old r)) → All P rows
  each P f h = all-inserts P news olds (each-new P f) (each-old P h)

  new-ends : (k : ℤ) → NewAt x sum d old n k → GoodEnd d (low_of d k) × GoodEnd d (up_of d k)
  new-ends k a = rw a.is at (ends-good s w d a.at e.values g.head.window.most one g.head.width.most)

  new-beside : (k : ℤ) → NewAt x sum d old n k → All (Beside (added sum d old k)) olds
  unfolding grown added row_at
  new-beside k a = each-old _ (λ r m o.
      subst (λ (t : ℤ). (up_of d t ≤ℤ r.low) ⊎ (r.up ≤ℤ low_of d t)) a.is
      (beside d _ r.up _ one o.low_end o.up-end (none_any (λ q. inside q.low q.up (sum a.at)) a.unknown m)))

  pub ascends : Ascending lowest_end (map range rows)
  ascends = inserts-ascends sum d old one olds lowest_end numbers (new-sorted x sum d old _)
      (λ k m. let a = rw end_is at (new-occur x sum d old _ k m) in (end-least d _ (new-ends k a).0, new-beside k a))
      (rw (grown-ranges x sum old _) (ranges-ascend x g))

  -- a new window stands in exactly the rows that hold its sum, and in one
  exact-new : (j : ℕ) → old ≤ j → All (Exact (sum j) j) rows
  unfolding grown added row_at
  exact-new j h = each _ (λ k a. added_new x sum old d k j h) (λ r m o. grown-new x sum old r j h)

  pub covers_new : (j : ℕ) → old ≤ j → j < n → holds_sum (sum j) rows ≡ true
  unfolding grown added row_at
  covers_new j a b = by-test _
      (λ t. let f = any_found (λ r. inside _ r.up (sum j)) _ t in
      any-mem (λ q. inside _ q.up (sum j)) (mem-inserts _ news olds (inr (mem-map _ f.is))) f.passes)
      (λ f. any-mem (λ q. inside _ q.up (sum j)) (mem-inserts _ news olds (inl (mem-map _ (new-mem x sum d old _ j a (omega arith) f)))) (in-own d (sum j) one))

  once-new : (j : ℕ) → old ≤ j → j < n → times (sets rows) j ≡ 1
  once-new j a b = exact-once lowest_end (sum j) j rows ascends (exact-new j a) (covers_new j a b)

  total : sizes (sets rows) n ≤ n
  total = omega (
    arith,
    rw end_is at (sizes-once _ old (n - old) (λ j a b. once-new j a (omega arith))),
    sizes-inserts old news olds,
    sizes-added x sum old d numbers,
    sizes-grown x sum old _ refl (each_row x g),
    lengths-at-most x g,
    e.longer,
  )

  sound : Sound d n rows
  unfolding grown added row_at
  sound = record {
    ascending = ascends;
    ends = each (Ends (GoodEnd d)) (λ k a. record { low_end = (new-ends k a).0; up-end = (new-ends k a).1 }) (λ r m o. record { low_end = o.low_end; up-end = o.up-end });
    occupied = each (Occupied n)
        (λ k a. record { at = a.at; below = a.below; member = added_new x sum old d k a.at a.new ∙ rw (← a.is) (in-own d (sum a.at) one) })
        (λ r m o. let i = good-member x r o in record { at = i.0; below = omega arith; member = grown-old x sum old r i.0 i.1 ∙ i.2 });
    total = total;
  }

  pub extended-well-formed : WellFormed (extended x s)
  unfolding extended extended_rows
  extended-well-formed = sets-well-formed x.window x.width n rows
      (record {
        window = g.head.window;
        width = g.head.width;
        windows = record { is = refl; least = omega (arith, e.longer, g.head.windows.least); most = omega (arith, e.short) };
      }) sound

  -- each new window stands in exactly one row, which holds its sum
  pub extended-new : (j : ℕ) → nat_abs x.windows ≤ j → j < window_count (length s) (nat_abs x.window) → Home (extended x s) s j
  unfolding extended extended_rows
  extended-new j a b = sets-home x.window x.width n rows s j extended-well-formed b
      (λ q m t. sym (all-mem (Exact (sum j) j) rows (exact-new j a) m) ∙ t) (once-any j rows (once-new j a b))

  old_below : (j : ℕ) (t : Bool) → j < old → (ltb j n && t) ≡ t
  old_below j t b = rw (lt-ltb j n (omega arith))

  kept_by : (r q : Row) → Shows (extended x s) n (grown x sum old r) q → Kept x (extended x s) r q
  unfolding grown
  kept_by r q h = record { low = h.low; up = h.up; windows = λ j b. h.has j ∙ old_below j _ b ∙ grown-old x sum old r j b }

  -- every old row is kept
  pub extended-kept : (r : Row) → Mem r x.rows → (q : Row) × Mem q (extended x s).rows × Kept x (extended x s) r q
  unfolding extended extended_rows
  extended-kept r m = let f = shows-row x.window x.width n rows _ (mem-inserts _ news olds (inr (mem-map _ m))) in
      (f.row, f.is, kept_by r _ f.shows)

  new_by : (k : ℤ) (q : Row) → Shows (extended x s) n (added sum d old k) q → NewRow x (extended x s) q
  unfolding added row_at
  new_by k q h = record { number = k; low = h.low; up = h.up; no_old = λ j b. h.has j ∙ old_below j _ b ∙ added-old x sum old d k j b }

  -- and any other row is a new one
  pub extended-only : (q : Row) → Mem q (extended x s).rows → ((r : Row) × Mem r x.rows × Kept x (extended x s) r q) ⊎ NewRow x (extended x s) q
  unfolding extended extended_rows
  extended-only q m =
      let f = row_shows x.window x.width n rows q m in
      let P : SetRow → Type 0 = λ t. Shows (extended x s) n t q → ((r : Row) × Mem r x.rows × Kept x (extended x s) r q) ⊎ NewRow x (extended x s) q in
      all-mem P rows (each P (λ k a h. inr (new_by k q h)) (λ r o i h. inl (r, o, kept_by r q h))) f.is f.shows

  right : (r q : Row) (j : ℕ) → r ≡ q → inside q.low q.up (sum j) ≡ true → inside (grown x sum old r).low (grown x sum old r).up (sum j) ≡ true
  unfolding grown
  right r q j h t = rw h t

  -- filed right against the part of the series that it covers, it is extended to one filed right
  pub extended-filed : Filed x (covered x s) → Filed (extended x s) s
  unfolding extended extended_rows
  extended-filed f = record {
    home = λ j b. elim (dec_lt j old) [
      | yes l ↦
          let h = f.home j l in
          let same : window_sum (take (old + w - 1) s) w j ≡ sum j = sum-of-part s (old + w - 1) w j (omega (arith, g.head.window.least)) in
          let P : SetRow → Type 0 = λ q. q.has j ≡ true → inside q.low q.up (sum j) ≡ true in
          sets-home x.window x.width n rows s j extended-well-formed b
          (λ q m. all-mem P rows (each P (λ k a t. clash t (added-old x sum old d k j l)) (λ r o i t. right r h.row j (h.no_other r o (sym (grown-old x sum old r j l) ∙ t)) (rw same at h.holds-it))) m)
          (any-mem (λ q. q.has j) (mem-inserts (grown x sum old h.row) news olds (inr (mem-map (grown x sum old) h.is))) (grown-old x sum old h.row j l ∙ h.stands-there))
      | no m ↦ extended-new j (omega arith) b
    ];
  }

  -- at most as many rows and runs as windows
  pub extended-most : (length (extended x s).rows ≤ window_count (length s) (nat_abs x.window)) × (length (extended x s).runs ≤ window_count (length s) (nat_abs x.window))
  unfolding extended extended_rows
  extended-most = (
    rows-at-most (extended x s) extended-well-formed,
    omega (arith, runs-at-most (extended x s) extended-well-formed, length-all_runs 0 (map (with_runs n) rows)),
  )

-- ---- as many windows as before: a copy

grown-copy : (x : Index) (sum : ℕ → ℤ) (r : Row) → GoodRow x r → with_runs (nat_abs x.windows) (grown x sum (nat_abs x.windows) r) ≡ range_row x r
unfolding with_runs grown
grown-copy x sum r g =
    let n = nat_abs x.windows in
    let m = g.good.plain in
    let q = grown x sum n r in
    let member : (j : ℕ) → j < n → q.has j ≡ held m j = λ j b. grown-old x sum n r j b ∙ ap (λ (l : List Entry). any (in_run j) l) g.good.is ∙ entries-hold m j in
    let e = ap (map entry) (runs-cong q.has (held m) n member ∙ apart-runs n 0 m g.good.apart) ∙ sym g.good.is in
    λ i. record { low = r.low; up = r.up; runs = e i }

grown-copies : (x : Index) (sum : ℕ → ℤ) (l : List Row) → All (GoodRow x) l → map (with_runs (nat_abs x.windows)) (map (grown x sum (nat_abs x.windows)) l) ≡ map (range_row x) l
unfolding All
grown-copies x sum [] g = refl
grown-copies x sum (r ∷ l) g = cc (grown-copy x sum r g.0, grown-copies x sum l g.1)

copy-rows : (x : Index) (sum : ℕ → ℤ) (n : ℕ) → WellFormed x → n ≡ nat_abs x.windows → extended_rows x sum n ≡ range_rows x
unfolding extended_rows new_numbers insert_rows
copy-rows x sum n g e = let z : nat_abs x.windows - nat_abs x.windows ≡ 0 = omega arith in rw (e, z) (grown-copies x sum x.rows (each_row x g))

pub extended-copy : (x : Index) (s : List ℤ) → WellFormed x → window_count (length s) (nat_abs x.window) ≡ nat_abs x.windows
    → ((extended x s).rows ≡ x.rows) × ((extended x s).runs ≡ take (run_total x.rows) x.runs) × (range_rows (extended x s) ≡ range_rows x)
unfolding extended
extended-copy x s g e =
    let n = window_count (length s) (nat_abs x.window) in
    let same = copy-rows x _ n g e in
    let again = laid-again x g in
    (ap (records 0) same ∙ again.0, ap all_runs same ∙ again.1, rows_back x.window x.width (pos n) _ ∙ same)
