-- The runs of the extension's rows counted: what the counting asks (`countable`), whether the first new run joins (`joins`), and that the counts, less one where it does, are those of the extension's rows (`matches`).
use Rattle.meaning_numbers.specs.Sum.{bit}
use Rattle.meaning_numbers.proofs.Prelude.{◌≡◌, refl, sym, ap, ◌∙◌, Bool, true, false, and-false, List, [], ◌∷◌, map, ℕ, zero, suc, ◌+◌, ◌-◌, ◌*◌, ◌<◌, ◌≤◌, arith, dec_lt, leb, eqb, ℤ, nat_abs, length, get_or, set, length-map, get_or-set_same, get_or-set_other, lt-ltb, le-ltb, eqb-true, eqb-false, eq-eqb, ne_eqb, zarith, by-test, clash}
use Rattle.meaning_numbers.proofs.{Sum.Σℕ-same, Count.bit-true, Count.bit-false}
use Rattle.meaning_rows.specs.{declared.Row.Row, Runs.before, Runs.run_count, Index.Index, Index.RangeRow, Index.entries, Build.with_runs, Extend.grown}
use Rattle.meaning_rows.proofs.{Judge.WellFormed, Runs.runs-le, Extend.Extendable, Woven.woven_rows, Woven.woven-ascends, Grown.last_ends, Grown.old-count, Grown.length-entries, Columns.get_d_past, Woven.extending}
use Rattle.rows_records.specs.Records.{zero_row}
use Rattle.sums_slide.specs.Levels.{level, Lent}
use Rattle.extend_new.specs.New.{less_join}
use Rattle.extend_count.specs.{Count.is_row, Count.row_from, Count.Countable, Count.Counted, Rank.rank, Listed.listed, Listed.end_of, Listed.size_of, Listed.Listable}
use Rattle.extend_count.proofs.Extension.{Ends, climbs, new-row, begun, first-in, has_first, first-joins, other-counts, first_count}
use Rattle.extend_count.proofs.{Count.counted-starts, Listed.listed_at, Listed.length-listed}
use Rattle.extend_parts.proofs.{OldRuns.row_has, Records.Matches}
use Rattle.extend_rows.specs.Steps.{first_new, joins_of, SumAsked}
use Rattle.extend_runs.proofs.{Rowed.ends-limits, Rowed.size_is, Rowed.total-most, Joined.Joins}

less-yes : {joins : Bool} (i : ℕ) (counts : List ℕ) → joins ≡ true → less_join joins i counts ≡ set counts i (get_or counts i 0 - 1)
unfolding less_join
less-yes i counts t = rw t refl

less-no : {joins : Bool} (i : ℕ) (counts : List ℕ) → joins ≡ false → less_join joins i counts ≡ counts
unfolding less_join
less-no i counts f = rw f refl

-- an entry of a mapped list, whatever stands past it
map_at : (G : Row → RangeRow) (o : RangeRow) (l : List Row) (i : ℕ) → i < length l → get_or (map G l) i o ≡ G (get_or l i zero_row)
map_at G o [] i h = absurd (omega arith)
map_at G o (r ∷ l) zero h = refl
map_at G o (r ∷ l) (suc i) h = map_at G o l i (omega arith)

module _ (x : Index) (s : List ℤ) (g : WellFormed x) (long : Extendable x s) (e : ℕ) (lent : Lent s (nat_abs x.window) e) (left right : List ℕ) (is : x.runs ≡ entries left right)
    (rows : List Row) (row_at : (i : ℕ) → get_or rows i zero_row ≡ get_or (woven_rows x s g long) i zero_row) (in_rows : length (woven_rows x s g long) ≤ length rows) where
  open extending x s g long use {w, old, n, sum, made, size, at, G}

  abbrev P : ℕ → ℕ → Bool
  P = row_has x s g long

  abbrev bias : ℕ
  bias = 10000 * w + e

  pub listable : (ups counts : ℕ) → size ≤ ups → size ≤ counts → Listable rows size bias ups counts
  listable ups counts a b = record {
    in_rows = in_rows;
    in-ups = a;
    in-counts = b;
    ends = λ i l. let q = (ends-limits x s g long i l).1 in rw (row_at i) (record { least = omega (zarith, q.0); most = q.1; small = omega arith });
  }

  module _ (ups counts right₁ left₁ : List ℕ) (lu : ups ≡ listed (end_of rows bias) size right₁) (lc : counts ≡ listed (size_of rows) size left₁) (in-ups : size ≤ length right₁) (in-counts : size ≤ length left₁) where
    ends : Ends made bias ups
    ends = record { end = λ i l. ap (λ m. get_or m i 0) lu ∙ listed_at _ size right₁ in-ups i l ∙ rw (row_at i) }

    sizes : (i : ℕ) → i < size → get_or counts i 0 ≡ (at i).runs
    sizes i l = ap (λ m. get_or m i 0) lc ∙ listed_at _ size left₁ in-counts i l ∙ ap (λ r. r.runs) (row_at i)

    pub old-size : (i : ℕ) → i < size → run_count (P i) old ≡ (at i).runs
    old-size i l = old-count x sum (at i) (begun x s g long e lent ups ends i l)

    pub countable : Countable s w e old ups size counts
    countable = record {
      lent = lent;
      some_left = long.longer;
      in-ups = omega (arith, ap length lu, length-listed (end_of rows bias) size right₁);
      in-counts = omega (arith, ap length lc, length-listed (size_of rows) size left₁);
      climbing = climbs made bias ups (woven-ascends x s g long) ends;
      has-row = new-row x s g long e lent ups ends;
      small = λ i l. omega (arith, sizes i l, old-size i l, runs-le (P i) old, long.longer, lent.long, lent.some);
    }

    module _ (counts' : List ℕ) (c : Counted s w e old ups size counts n counts') (i : ℕ) (first-new : old < n → i ≡ rank ups size (level s w e old)) where
      abbrev r : Row
      r = get_or rows i zero_row

      abbrev J : Bool
      J = joins_of s w old r right

      pub row_fits : r.first + r.runs ≤ length right
      row_fits = rw (row_at i) (elim (dec_lt i size) [
        | yes l ↦ omega (arith, (begun x s g long e lent ups ends i l).fits, ap length is, length-entries left right)
        | no f ↦ rw (get_d_past zero_row made i (omega arith)) (omega arith)
      ])

      no_join : n ≤ old → J ≡ false
      unfolding joins_of first_new last_ends
      no_join h = rw (le-ltb old n h, ne_eqb (get_or right (r.first + r.runs - 1) 0 + 1) 0 (λ q. omega arith)) (and-false (leb 1 r.runs))

      module _ (some : old < n) where
        abbrev first : ℕ
        first = rank ups size (level s w e old)

        pub row_in : i < size
        row_in = rw (first-new some) (first-in x s g long e lent ups ends counts counts' sizes c some left right is)

        ends_is : J ≡ last_ends (get_or made first zero_row) right old
        unfolding joins_of first_new
        ends_is = rw (lt-ltb old n some) (ap (λ q. last_ends q right old) (row_at i) ∙ rw (first-new some))

        before-is : before (P i) old ≡ J
        before-is = ap (λ k. before (P k) old) (first-new some) ∙ first-joins x s g long e lent ups ends counts counts' sizes c some left right is ∙ sym ends_is

        has-is : (k : ℕ) → k < size → P k old ≡ eqb first k
        has-is k l = has_first x s g long e lent ups ends counts counts' sizes c some left right is k l

        joins-new : Joins x s g long i J
        joins-new = record {
          new = λ t. some;
          row = λ t. row_in;
          holds = λ t. has-is i row_in ∙ eq-eqb first i (sym (first-new some));
          goes_on = λ t. before-is ∙ t;
          fresh = λ f k l m t. let q = sym (eqb-true first k (sym (has-is k l) ∙ t)) ∙ sym (first-new some) in ap (λ k. before (P k) old) q ∙ before-is ∙ f;
        }

        own-count : get_or counts' i 0 ≡ run_count (P i) n + bit J
        own-count =
            ap (λ k. get_or counts' k 0) (first-new some) ∙ first_count x s g long e lent ups ends counts counts' sizes c some left right is ∙ (λ j. run_count (P (sym (first-new some) j)) n + bit (sym ends_is j))

        count-new : (k : ℕ) → k < size → get_or (less_join J i counts') k 0 ≡ run_count (P k) n
        count-new k l = by-test _
            (λ t. rw (eqb-true k i t) (by-test J
            (λ y. rw (less-yes i counts' y) (get_or-set_same counts' i _ 0 (omega (arith, row_in, c.long, ap length lc, length-listed (size_of rows) size left₁)) ∙ omega (arith, own-count, bit-true y)))
            (λ f. rw (less-no i counts' f) (omega (arith, own-count, bit-false f)))))
            (λ f. let q = eqb-false k i f in
            let o = other-counts x s g long e lent ups ends counts counts' sizes c some left right is k l (λ p. q (p ∙ sym (first-new some))) in
            by-test J
            (λ y. rw (less-yes i counts' y) (get_or-set_other counts' i k _ 0 q ∙ o))
            (λ h. rw (less-no i counts' h) o))

      count-old : n ≤ old → (k : ℕ) → k < size → get_or (less_join J i counts') k 0 ≡ run_count (P k) n
      count-old h k l =
          let q : n ≡ old = omega arith in
          rw (less-no i counts' (no_join h)) (omega (arith, c.count k l, ap (run_count (is_row (row_from s w e old ups size) k)) q, (counted-starts s w e old ups size counts).count k l, sizes k l, old-size k l, ap (run_count (P k)) q))

      joins-none : n ≤ old → Joins x s g long i J
      joins-none h = record {
        new = λ t. clash t (no_join h);
        row = λ t. clash t (no_join h);
        holds = λ t. clash t (no_join h);
        goes_on = λ t. clash t (no_join h);
        fresh = λ f k l m t. absurd (omega arith);
      }

      pub joins : Joins x s g long i J
      joins = elim (dec_lt old n) [ yes h ↦ joins-new h | no f ↦ joins-none (omega arith) ]

      -- the counts are the runs of the rows
      pub count-is : (k : ℕ) → k < size → get_or (less_join J i counts') k 0 ≡ run_count (P k) n
      count-is k l = elim (dec_lt old n) [ yes h ↦ count-new h k l | no f ↦ count-old (omega arith) k l ]

      pub sum-asked : SumAsked J i counts' size
      sum-asked =
          let many = ap length lc in
          record {
            fits = omega (arith, c.long, many, length-listed (size_of rows) size left₁);
            has = λ t. let h = joins.new t in (omega (arith, row_in h, c.long, many, length-listed (size_of rows) size left₁), omega (arith, own-count h, bit-true t));
            small = omega (arith, Σℕ-same size (λ k. get_or (less_join J i counts') k 0) (λ k. run_count (P k) n) (λ k l. count-is k l), total-most x s g long, lent.long, lent.some);
          }

      pub matches : Matches (map G made) rows (less_join J i counts')
      unfolding with_runs grown
      matches = record {
        low = λ k l. let m : k < size = omega (arith, length-map made G) in ap (λ q. q.low) (row_at k) ∙ sym (rw (map_at G _ made k m));
        up = λ k l. let m : k < size = omega (arith, length-map made G) in ap (λ q. q.up) (row_at k) ∙ sym (rw (map_at G _ made k m));
        count = λ k l. let m : k < size = omega (arith, length-map made G) in count-is k m ∙ sym (size_is x s g long k) ∙ sym (rw (map_at G _ made k m));
      }
