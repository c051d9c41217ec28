-- The counts of an extension are right: counting by rank, from each row's old runs on, gives the runs of the extension's rows, but for the first new run where it joins an old one (`counts-are`).
use Rattle.meaning_numbers.specs.{Sum.bit, Place.any}
use Rattle.meaning_numbers.proofs.Prelude.{◌≡◌, refl, sym, ap, ◌∙◌, Bool, true, false, ◌&&◌, and-false, and-true, List, [], ◌∷◌, map, ℕ, zero, suc, ◌+◌, ◌-◌, ◌*◌, ◌<◌, ◌≤◌, arith, dec_lt, eqb, ℤ, nat_abs, length, get_or, ◌≤ℤ◌, ◌<ℤ◌, eq-eqb, ne_eqb, le-leb, lt-leb, Rep, zarith, by-test, clash}
use Rattle.meaning_numbers.proofs.{Count.bit-false, Member.all-mem, Member.mem-at}
use Rattle.meaning_curves.specs.{Limits.lowest_end}
use Rattle.meaning_rows.specs.{declared.Row.Row, Range.inside, Runs.before, Runs.run_count, Index.Index, Index.entries, Extend.grown}
use Rattle.meaning_rows.proofs.Grown.{onward, onward-count, last_ends, Begun, begun-woven, old-count, joins-old}
use Rattle.meaning_rows.proofs.{Range.is-inside, Runs.runs-cong, Times.Ascending, Judge.WellFormed, Judge.range_of, Extend.Extendable, Extend.grown-new, Woven.woven_rows, Woven.woven-ascends, Woven.woven-covers, Woven.extending}
use Rattle.rows_records.specs.Records.{zero_row}
use Rattle.sums_slide.specs.{Levels.level, Levels.Lent, Ends.raised_end}
use Rattle.sums_slide.proofs.{Levels.level-is, EndsLaws.raised-le, EndsLaws.raised-gt, EndsLaws.raised-mono}
use Rattle.sums_count.specs.Tally.{is_row}
use Rattle.extend_count.specs.{Rank.rank, Rank.Climbing, Count.row_from, Count.Counted}
use Rattle.extend_count.proofs.{Rank.rank_is, Count.row_new, Count.row_old}

-- ---- the members from an offset on

onward-is : (p : ℕ → Bool) (old j : ℕ) → old ≤ j → onward old p j ≡ p j
unfolding onward
onward-is p old j h = rw (le-leb old j h)

onward-not : (p : ℕ → Bool) (old j : ℕ) → j < old → onward old p j ≡ false
unfolding onward
onward-not p old j h = rw (lt-leb old j h)

-- ---- ranges that ascend, by index

pub low-from : (a : ℤ) (l : List Row) (k : ℕ) → k < length l → Ascending a (map range_of l) → (a ≤ℤ (get_or l k zero_row).low) × ((get_or l k zero_row).low <ℤ (get_or l k zero_row).up)
unfolding Ascending
low-from a [] k h p = absurd (omega arith)
low-from a (r ∷ l) zero h p = (p.0, p.1)
low-from a (r ∷ l) (suc k) h p = let e = low-from r.up l k (omega arith) p.2 in (omega zarith, e.1)

pub in_order : (a : ℤ) (l : List Row) (i k : ℕ) → i < k → k < length l → Ascending a (map range_of l) → (get_or l i zero_row).up ≤ℤ (get_or l k zero_row).low
unfolding Ascending
in_order a [] i k b h p = absurd (omega arith)
in_order a (r ∷ l) i zero b h p = absurd (omega arith)
in_order a (r ∷ l) zero (suc k) b h p = (low-from r.up l k (omega arith) p.2).0
in_order a (r ∷ l) (suc i) (suc k) b h p = in_order r.up l i k (omega arith) (omega arith) p.2

pub record Holder (l : List Row) (z : ℤ) : Type 0 where
  pub at : ℕ
  pub below : at < length l
  pub holds : inside (get_or l at zero_row).low (get_or l at zero_row).up z ≡ true

pub holder : (l : List Row) (z : ℤ) → any (λ r. inside r.low r.up z) l ≡ true → Holder l z
unfolding any
holder [] z e = clash e refl
holder (r ∷ l) z e = by-test _
    (λ t. record { at = 0; below = omega arith; holds = t })
    (λ f. let h = holder l z (rw f at e) in record { at = suc h.at; below = omega arith; holds = h.holds })

-- the raised upper ends of the rows
pub record Ends (rows : List Row) (bias : ℕ) (ups : List ℕ) : Type 0 where
  pub end : (i : ℕ) → i < length rows → get_or ups i 0 ≡ raised_end bias (get_or rows i zero_row).up

module _ (rows : List Row) (bias : ℕ) (ups : List ℕ) (asc : Ascending lowest_end (map range_of rows)) (ends : Ends rows bias ups) where
  ups-order : (i k : ℕ) → i ≤ k → k < length rows → (get_or rows i zero_row).up ≤ℤ (get_or rows k zero_row).up
  ups-order i k h l = elim (dec_lt i k) [
    | yes m ↦ let a = in_order lowest_end rows i k m l asc in let b = (low-from lowest_end rows k l asc).1 in omega zarith
    | no f ↦ let e : i ≡ k = omega arith in rw e (omega zarith)
  ]

  pub climbs : Climbing ups (length rows)
  climbs = record { up = λ i k h l. rw (ends.end i (omega arith), ends.end k l) (raised-mono _ _ bias (ups-order i k h l)) }

  -- a sum's rank is the row that holds it
  rank-row : (z : ℤ) (n i : ℕ) → Rep z n bias → i < length rows → inside (get_or rows i zero_row).low (get_or rows i zero_row).up z ≡ true → rank ups (length rows) n ≡ i
  rank-row z n i r l t =
      let b = is-inside _ _ z t in
      rank_is ups _ n i (omega arith)
      (λ k h. let a = in_order lowest_end rows k i h l asc in rw (ends.end k (omega arith)) (raised-le (get_or rows k zero_row).up z bias n r (omega zarith)))
      (λ k h m. let a = ups-order i k h m in rw (ends.end k m) (raised-gt (get_or rows k zero_row).up z bias n r (omega zarith)))

  -- and no other row holds it
  one-row : (z : ℤ) (n i : ℕ) → Rep z n bias → i < length rows → any (λ r. inside r.low r.up z) rows ≡ true → eqb (rank ups (length rows) n) i ≡ inside (get_or rows i zero_row).low (get_or rows i zero_row).up z
  one-row z n i r l e =
      let h = holder rows z e in
      by-test _
      (λ t. eq-eqb _ i (rank-row z n i r l t) ∙ sym t)
      (λ f. ne_eqb _ i (λ q. let s = sym (rank-row z n h.at r h.below h.holds) ∙ q in clash (rw s at h.holds) f) ∙ sym f)

  has-rank : (z : ℤ) (n : ℕ) → Rep z n bias → any (λ r. inside r.low r.up z) rows ≡ true → rank ups (length rows) n < length rows
  has-rank z n r e = let h = holder rows z e in rw (rank-row z n h.at r h.below h.holds) h.below

-- ---- the counts

module _ (x : Index) (s : List ℤ) (g : WellFormed x) (long : Extendable x s) (e : ℕ) (lent : Lent s (nat_abs x.window) e) (ups : List ℕ)
    (ends : Ends (woven_rows x s g long) (10000 * nat_abs x.window + e) ups) where
  open extending x s g long use {w, old, n, sum, made as rows, size}

  abbrev bias : ℕ
  bias = 10000 * w + e

  -- the offsets of row i
  abbrev pub has : ℕ → ℕ → Bool
  has i = (grown x sum old (get_or rows i zero_row)).has

  asc : Ascending lowest_end (map range_of rows)
  asc = woven-ascends x s g long

  pub new-row : (j : ℕ) → old ≤ j → j < n → rank ups size (level s w e j) < size
  new-row j a b = has-rank rows bias ups asc ends (sum j) _ (level-is j lent) (woven-covers x s g long j a b)

  -- a new window is of row i by rank exactly if it is the row's
  same_test : (i j : ℕ) → i < size → j < n → is_row (row_from s w e old ups size) i j ≡ onward old (has i) j
  unfolding is_row
  same_test i j l b = elim (dec_lt j old) [
    | yes m ↦ rw (row_old s w e old ups size j m) (ne_eqb size i (λ q. omega arith)) ∙ sym (onward-not (has i) old j m)
    | no f ↦
        let a : old ≤ j = omega arith in
        ap (λ k. eqb k i) (row_new s w e old ups size j a) ∙ one-row rows bias ups asc ends (sum j) _ i (level-is j lent) l (woven-covers x s g long j a b)
        ∙ sym (grown-new x sum old _ j a) ∙ sym (onward-is (has i) old j a)
  ]

  pub begun : (i : ℕ) → i < size → Begun x (get_or rows i zero_row)
  begun i l = all-mem _ rows (begun-woven x g _ _) (mem-at zero_row rows i l)

  module _ (start counts : List ℕ) (sizes : (i : ℕ) → i < size → get_or start i 0 ≡ (get_or rows i zero_row).runs) (c : Counted s w e old ups size start n counts) (some : old < n) where
    -- the first new run is counted once too often where it joins
    pub counts-are : (i : ℕ) → i < size → get_or counts i 0 ≡ run_count (has i) n + bit (before (has i) old && has i old)
    counts-are i l =
        let m = n - old - 1 in
        let end : old + suc m ≡ n = omega arith in
        let all = rw end at (onward-count (has i) old m) in
        omega (
          arith,
          c.count i l,
          sizes i l,
          ap length (runs-cong _ _ n (λ j b. same_test i j l b)),
          all,
          old-count x sum _ (begun i l),
        )

    module _ (left right : List ℕ) (is : x.runs ≡ entries left right) where
      -- the row of the first new window, and whether its last old run ends right before it
      abbrev pub first : ℕ
      first = rank ups size (level s w e old)

      abbrev pub joins : Bool
      joins = last_ends (get_or rows first zero_row) right old

      pub first-in : first < size
      first-in = new-row old (omega arith) some

      pub has_first : (i : ℕ) → i < size → has i old ≡ eqb first i
      has_first i l =
          grown-new x sum old _ old (omega arith)
          ∙ sym (one-row rows bias ups asc ends _ _ i (level-is old lent) l (woven-covers x s g long old (omega arith) some))

      pub first-joins : before (has first) old ≡ joins
      first-joins = joins-old x left right is _ (begun first first-in) sum

      -- of the other rows, the counts are the runs
      pub other-counts : (i : ℕ) → i < size → (i ≡ first → ⊥) → get_or counts i 0 ≡ run_count (has i) n
      other-counts i l f =
          let z : (before (has i) old && has i old) ≡ false = rw (has_first i l, ne_eqb first i (λ q. f (sym q))) (and-false (before (has i) old)) in
          omega (arith, counts-are i l, bit-false z)

      -- and of the first one, one less where it joins
      pub first_count : get_or counts first 0 ≡ run_count (has first) n + bit joins
      first_count =
          let z : (before (has first) old && has first old) ≡ joins = rw (has_first first first-in, eq-eqb first first refl, first-joins) (and-true joins) in
          counts-are first first-in ∙ rw z
