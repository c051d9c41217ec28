-- Where the old runs are copied and the first new run is joined, the pass can begin (`passable`).
use Rattle.meaning_numbers.specs.Sum.{bit}
use Rattle.meaning_numbers.proofs.Prelude.{◌≡◌, refl, sym, ap, ◌∙◌, subst, Bool, true, false, List, map, ℕ, suc, ◌+◌, ◌-◌, ◌*◌, ◌<◌, ◌≤◌, arith, ℤ, length, get_or, set, take, length-set, get_or-set_other, by-test, clash}
use Rattle.meaning_rows.specs.{declared.Row.Row, Range.inside, Runs.before, Runs.run_count, Index.Index, Index.entries, Index.records}
use Rattle.meaning_rows.proofs.{Judge.WellFormed, Runs.before_more, Runs.before-some, Columns.run_count-mono, Extend.Extendable, Parts.Parts, Cursors.Cursors, Grown.length-entries, Woven.extending}
use Rattle.rows_records.specs.Records.{zero_row}
use Rattle.sums_slide.specs.{declared.Window.Window, Change.Change, Ends.raised_end}
use Rattle.sums_slide.proofs.{Levels.level-is, EndsLaws.within-is}
use Rattle.build_fill.specs.{Pass.part_start, Pass.parts_total, Pass.parts-laid, Pass.Passable, Pass.Rowed, Turn.At}
use Rattle.build_fill.proofs.{Turn.stop-held, Pass.rowed-once}
use Rattle.extend_new.specs.Join.{JoinedRun, Joinable, joined-parts, joined-cursors}
use Rattle.extend_parts.specs.Copy.{column_to, Copyable}
use Rattle.extend_parts.proofs.{Copy.length-column, Columns.column-past, OldRuns.row_has, OldRuns.LaidRows, OldRuns.copyable, OldRuns.old-parts, OldRuns.old-cursors}
use Rattle.extend_runs.proofs.Rowed.{total-most, first-at, extended-rowed, extended-laid}

-- parts that begin at the same places
parts_first : {R W : ℕ} {P : ℕ → ℕ → Bool} {f h : ℕ → ℕ} {j : ℕ} {l r : List ℕ} → ((i : ℕ) → i < R → f i ≡ h i) → Parts R W P f j l r → Parts R W P h j l r
parts_first {l = l} {r = r} e p = record {
  left_is = λ i t b c. ap (λ k. get_or l (k + t) 0) (sym (e i b)) ∙ p.left_is i t b c;
  right_is = λ i t b c. ap (λ k. get_or r (k + t) 0) (sym (e i b)) ∙ p.right_is i t b c;
}

cursors-first : {R W : ℕ} {P : ℕ → ℕ → Bool} {f h : ℕ → ℕ} {j : ℕ} {r : List ℕ} → ((i : ℕ) → i < R → f i ≡ h i) → Cursors R W P f j r → Cursors R W P h j r
cursors-first {W = W} {P = P} {r = r} e c = record { cursor = λ i b m. ap (λ k. get_or r (k + run_count (P i) W - 1) 0) (sym (e i b)) ∙ c.cursor i b m }

-- a set that has the offset before has a run
some-before : (p : ℕ → Bool) (j : ℕ) → before p j ≡ true → 1 ≤ run_count p j
unfolding bit
some-before p j h = omega (arith, rw h at (before-some p j))

module _ (x : Index) (s : List ℤ) (g : WellFormed x) (long : Extendable x s) where
  open extending x s g long use {w, old, n, sum, made, size, at, G}

  abbrev P : ℕ → ℕ → Bool
  P = row_has x s g long

  abbrev total : ℕ
  total = parts_total size n P

  -- whether the first new run goes on from the last old run of row i
  pub record Joins (i : ℕ) (joins : Bool) : Type 0 where
    pub new : joins ≡ true → old < n
    pub row : joins ≡ true → i < size
    pub holds : joins ≡ true → P i old ≡ true
    pub goes_on : joins ≡ true → before (P i) old ≡ true
    pub fresh : joins ≡ false → (k : ℕ) → k < size → old < n → P k old ≡ true → before (P k) old ≡ false

  module _ (left right : List ℕ) (is : x.runs ≡ entries left right) (rows : List Row) (fits : size ≤ length rows) (front : take size rows ≡ records 0 (map G made))
      (left₀ right₀ : List ℕ) (in_left : n ≤ length left₀) (in_right : n ≤ length right₀) where
    abbrev pub old_left : List ℕ
    old_left = column_to x.rows left rows size left₀

    abbrev pub old_right : List ℕ
    old_right = column_to x.rows right rows size right₀

    room-left : total ≤ length left₀
    room-left = omega (arith, total-most x s g long, in_left)

    room-right : total ≤ length right₀
    room-right = omega (arith, total-most x s g long, in_right)

    laid : LaidRows x s g long rows total
    laid = extended-laid x s g long rows fits front total (omega arith)

    shorter : (length x.runs ≤ length left) × (length x.runs ≤ length right)
    shorter = let e = ap length is in (omega (arith, length-entries left right), omega (arith, length-entries left right))

    pub copies-left : Copyable x.rows rows size (length left) (length left₀)
    copies-left = copyable x s g long left right is rows total laid _ _ shorter.0 room-left

    pub copies-right : Copyable x.rows rows size (length right) (length right₀)
    copies-right = copyable x s g long left right is rows total laid _ _ shorter.1 room-right

    long-left : length old_left ≡ length left₀
    long-left = length-column _ left rows size left₀ copies-left size (omega arith)

    long-right : length old_right ≡ length right₀
    long-right = length-column _ right rows size right₀ copies-right size (omega arith)

    past : (y : ℕ) → total ≤ y → (i : ℕ) → i < size → (get_or rows i zero_row).first + (get_or rows i zero_row).runs ≤ y
    past y h i l = omega (arith, laid.fits i l)

    past-left : (y : ℕ) → total ≤ y → get_or old_left y 0 ≡ get_or left₀ y 0
    past-left y h = column-past _ left rows size left₀ copies-left laid.apart y (past y h) size (omega arith)

    past-right : (y : ℕ) → total ≤ y → get_or old_right y 0 ≡ get_or right₀ y 0
    past-right y h = column-past _ right rows size right₀ copies-right laid.apart y (past y h) size (omega arith)

    parts : Parts size n P (part_start size n P) old old_left old_right
    parts = parts_first (first-at x s g long rows fits front) (old-parts x s g long left right is rows total laid left₀ right₀ room-left room-right)

    cursors : Cursors size n P (part_start size n P) old old_right
    cursors = cursors-first (first-at x s g long rows fits front) (old-cursors x s g long left right is rows total laid left₀ right₀ room-left room-right)

    rowed : Rowed P sum old n rows size
    rowed = extended-rowed x s g long rows fits front

    module _ (e : ℕ) {place : Window} (start : At s w e place) (begins : place.offset ≡ old) {i : ℕ} {joins : Bool} (j : Joins i joins) {lo hi spot : ℕ}
        (low : joins ≡ true → lo ≡ raised_end (10000 * w + e) (get_or rows i zero_row).low) (high : joins ≡ true → hi ≡ raised_end (10000 * w + e) (get_or rows i zero_row).up)
        (where-is : joins ≡ true → spot ≡ part_start size n P i + run_count (P i) old - 1) {t : Window} {right' : List ℕ} (h : JoinedRun s w e place joins lo hi spot old_right t right') where
      -- nothing joins
      passable-fresh : joins ≡ false → Passable P s w e t rows size old_left right'
      passable-fresh f =
          rw ((h.stays f).0, (h.stays f).1) (record {
            place = start;
            rowed = rw begins rowed;
            filling = rw begins (record {
              parts = parts;
              cursors = cursors;
              fresh = λ k l m q. j.fresh f k l m q;
              in_left = omega (arith, room-left, long-left);
              in_right = omega (arith, room-right, long-right);
              past-left = λ y l. refl;
              past-right = λ y l. refl;
              long-left = refl;
              long-right = refl;
            });
          })

      module _ (y : joins ≡ true) where
        abbrev r : ℕ
        r = t.offset

        abbrev m : ℕ
        m = r - old - 1

        change : Change (λ k. inside (get_or rows i zero_row).low (get_or rows i zero_row).up (sum k)) old n r
        change = subst (λ k. Change (λ k. inside (get_or rows i zero_row).low (get_or rows i zero_row).up (sum k)) k n r) begins
            (stop-held (get_or rows i zero_row).low (get_or rows i zero_row).up start.lent (low y) (high y) (h.stop y))

        ahead : old < r
        ahead = omega (arith, h.ahead y, begins)

        end : old + suc m ≡ r
        end = omega (arith, ahead)

        last : old + m ≡ r - 1
        last = omega (arith, ahead)

        mine : (k : ℕ) → old ≤ k → k < r → P i k ≡ true
        mine k a b = rowed.holds i k (j.row y) a (omega (arith, change.below)) ∙ change.same k b a

        others : (k q : ℕ) → old ≤ k → k < r → q < size → (q ≡ i → ⊥) → P q k ≡ false
        others k q a b l f = rowed-once rowed i q k (j.row y) l a (omega (arith, change.below)) (mine k a b) f

        fresh : (q : ℕ) → q < size → r < n → P q r ≡ true → before (P q) r ≡ false
        fresh q l b v =
            let z : r ≡ (r - 1) + 1 = omega (arith, ahead) in
            let other : (q ≡ i) → ⊥ = λ p. clash (ap (λ k. P k r) (sym p) ∙ v) (rowed.holds i r (j.row y) (omega (arith, ahead)) b ∙ change.other b) in
            ap (before (P q)) z ∙ before_more (P q) (r - 1) ∙ others (r - 1) q (omega (arith, ahead)) (omega arith) l other

        wrote : right' ≡ set old_right (part_start size n P i + run_count (P i) old - 1) (old + m)
        wrote = h.wrote y ∙ ap (λ k. set old_right k (r - 1)) (where-is y) ∙ ap (set old_right _) (sym last)

        rl : total ≤ length old_left
        rl = omega (arith, room-left, long-left)

        rr : total ≤ length old_right
        rr = omega (arith, room-right, long-right)

        joined : Parts size n P (part_start size n P) r old_left right'
        joined = rw (end, sym wrote) at (joined-parts size n P _ total (parts-laid size n P) i old (j.row y) (j.goes_on y) old_left old_right rl rr parts m (omega (arith, end, change.below))
            (λ k a b. mine k a (omega (arith, end))) (λ k q a b. others k q a (omega (arith, end))))

        joined-cursor : Cursors size n P (part_start size n P) r right'
        joined-cursor = rw (end, sym wrote) at (joined-cursors size n P _ total (parts-laid size n P) i old (j.row y) (j.goes_on y) old_left old_right rl rr cursors m (omega (arith, end, change.below))
            (λ k a b. mine k a (omega (arith, end))) (λ k q a b. others k q a (omega (arith, end))))

        same-long : length right' ≡ length old_right
        same-long = ap length wrote ∙ length-set old_right _ _

        passable-joined : Passable P s w e t rows size old_left right'
        passable-joined = record {
          place = record { lent = start.lent; below = change.below; sum = (h.stop y).sum };
          rowed = record {
            within = rowed.within;
            small = rowed.small;
            apart = rowed.apart;
            holds = λ k q l a b. rowed.holds k q l (omega (arith, ahead)) b;
            home = λ k a b. rowed.home k (omega (arith, ahead)) b;
            first = rowed.first;
            runs = rowed.runs;
          };
          filling = record {
            parts = joined;
            cursors = joined-cursor;
            fresh = fresh;
            in_left = rl;
            in_right = omega (arith, rr, same-long);
            past-left = λ k l. refl;
            past-right = λ k l. refl;
            long-left = refl;
            long-right = refl;
          };
        }

      pub passable : Passable P s w e t rows size old_left right'
      passable = by-test joins passable-joined passable-fresh

      -- behind all parts nothing is changed
      past-joined : joins ≡ true → (y : ℕ) → total ≤ y → get_or right' y 0 ≡ get_or right₀ y 0
      past-joined v y l =
          let a = (parts-laid size n P).room i (j.row v) in
          let b = run_count-mono (P i) old n long.longer in
          let c = some-before (P i) old (j.goes_on v) in
          ap (λ k. get_or k y 0) (wrote v) ∙ get_or-set_other old_right _ y _ 0 (λ q. omega arith) ∙ past-right y l

      pub past-both : (y : ℕ) → total ≤ y → (get_or old_left y 0 ≡ get_or left₀ y 0) × (get_or right' y 0 ≡ get_or right₀ y 0)
      past-both y l = (past-left y l, by-test joins (λ v. past-joined v y l) (λ f. ap (λ k. get_or k y 0) (h.stays f).1 ∙ past-right y l))

      pub long-both : (length old_left ≡ length left₀) × (length right' ≡ length right₀)
      long-both = (long-left, by-test joins (λ v. same-long v ∙ long-right) (λ f. ap length (h.stays f).1 ∙ long-right))

    -- the part of a row begins in the column
    pub row-begins : (i : ℕ) → i < size → (get_or rows i zero_row).first ≤ length old_right
    row-begins i l = omega (arith, laid.fits i l, room-right, long-right)

    -- what joining asks
    pub joinable : (e : ℕ) {place : Window} → At s w e place → place.offset ≡ old → {i : ℕ} {joins : Bool} → Joins i joins → {lo hi spot : ℕ}
        → (joins ≡ true → lo ≡ raised_end (10000 * w + e) (get_or rows i zero_row).low) → (joins ≡ true → hi ≡ raised_end (10000 * w + e) (get_or rows i zero_row).up)
        → (joins ≡ true → spot ≡ part_start size n P i + run_count (P i) old - 1) → Joinable s w e place joins lo hi spot (length old_right)
    joinable e {place} start begins {i} {joins} j low high where-is = record {
      begins = λ v. omega (arith, j.new v, begins);
      sum = λ v. start.sum;
      holds = λ v. rw (low v, high v, begins) (within-is (get_or rows i zero_row).low (get_or rows i zero_row).up (level-is old start.lent) ∙ sym (rowed.holds i old (j.row v) (omega arith) (j.new v)) ∙ j.holds v);
      fits = λ v.
          let a = (parts-laid size n P).room i (j.row v) in
          let b = run_count-mono (P i) old n long.longer in
          let c = some-before (P i) old (j.goes_on v) in
          omega (arith, where-is v, room-right, long-right);
    }
