-- The runs of a row of an extension: below the old window count they are the row's old runs (`old-runs`, `left_at`, `right-at`), and below n as many as these and the runs of its new windows, less one where
-- the first new run joins the last old one (`onward-count`), which is told by the end of the last old run (`joins-old`).
use Rattle.meaning_numbers.specs.{Sum.bit, Place.any}
use Rattle.meaning_numbers.proofs.Member.{All, all-mem, mem-all}
use Rattle.meaning_numbers.proofs.Prelude.{◌≡◌, refl, sym, ap, ◌∙◌, subst, Bool, true, false, not, ◌&&◌, List, [], ◌∷◌, ℕ, zero, suc, ◌+◌, ◌-◌, ◌<◌, ◌≤◌, min, arith, leb, eqb, ℤ, pos, nat_abs, length, get_or, length-map, List·get_d-map, get_or-take, get_or-drop, leb-true, le-leb, lt-leb, eq-eqb, ne_eqb, by-test}
use Rattle.meaning_rows.specs.{declared.Row.Row, Runs.before, Runs.runs, Runs.run_count, Index.Index, Index.Entry, Index.entries, Index.runs_of, Index.in_run, Build.entry, Extend.grown}
use Rattle.meaning_rows.proofs.Runs.{Apart, Next, entries-hold, runs-cong, apart-runs, runs-next, run_count-more, before-none, before_more}
use Rattle.meaning_rows.proofs.{Columns.lefts, Columns.rights, Columns.run_count-none, Judge.GoodRuns, Judge.WellFormed, Judge.length-runs_of, Judge.each_row, Extend.grown-old, Woven.new_row, Woven.woven, Woven.all-woven}

-- ---- the runs of a set from an offset on

-- the members from `old` on
unfoldable pub onward : ℕ → (ℕ → Bool) → ℕ → Bool
onward old p j = leb old j && p j

module _ (p : ℕ → Bool) (old : ℕ) where
  onward-is : (j : ℕ) → old ≤ j → onward old p j ≡ p j
  unfolding onward
  onward-is j h = rw (le-leb old j h)

  onward-not : (j : ℕ) → j < old → onward old p j ≡ false
  unfolding onward
  onward-not j h = rw (lt-leb old j h)

  none-onward : (n : ℕ) → n ≤ old → run_count (onward old p) n ≡ 0
  unfolding bit
  none-onward zero h = run_count-none _
  none-onward (suc n) h = let e : suc n ≡ n + 1 = omega arith in
      let b : bit (onward old p n && not (before (onward old p) n)) ≡ 0 = rw (onward-not n (omega arith)) in
      rw e (omega (arith, run_count-more (onward old p) n, none-onward n (omega arith), b))

  before-onward : before (onward old p) old ≡ false
  before-onward = first old refl
    where
      first : (k : ℕ) → k ≡ old → before (onward old p) k ≡ false
      first zero e = before-none _
      first (suc k) e = let s : suc k ≡ k + 1 = omega arith in rw s (before_more _ k ∙ onward-not k (omega arith))

  same-before : (m : ℕ) → before (onward old p) (old + suc m) ≡ before p (old + suc m)
  same-before m = let e : old + suc m ≡ (old + m) + 1 = omega arith in rw e (before_more (onward old p) (old + m) ∙ onward-is (old + m) (omega arith) ∙ sym (before_more p (old + m)))

  at_first : (a b : Bool) → bit (a && not b) + bit (b && a) ≡ bit (a && true)
  unfolding bit
  at_first true true = refl
  at_first true false = refl
  at_first false true = refl
  at_first false false = refl

  -- the runs below n are those below `old` and those from `old` on, less one where a run goes across
  pub onward-count : (m : ℕ) → run_count p (old + suc m) + bit (before p old && p old) ≡ run_count p old + run_count (onward old p) (old + suc m)
  onward-count zero =
      let s : bit (p old && not (before p old)) + bit (before p old && p old) ≡ bit (onward old p old && not (before (onward old p) old)) = rw (before-onward, onward-is old (omega arith)) (at_first (p old) (before p old)) in
      omega (arith, run_count-more p old, run_count-more (onward old p) old, none-onward old (omega arith), s)
  onward-count (suc m) =
      let e : old + suc (suc m) ≡ (old + suc m) + 1 = omega arith in
      let s : bit (onward old p (old + suc m) && not (before (onward old p) (old + suc m))) ≡ bit (p (old + suc m) && not (before p (old + suc m))) = rw (onward-is (old + suc m) (omega arith), same-before m) in
      rw e (omega (arith, run_count-more p (old + suc m), run_count-more (onward old p) (old + suc m), onward-count m, s))

-- ---- the end of the last run

-- the row's last run in the right column ends right before j
unfoldable pub last_ends : Row → List ℕ → ℕ → Bool
last_ends r right j = leb 1 r.runs && eqb (get_or right (r.first + r.runs - 1) 0 + 1) j

last-next : (b : Bool) (l : List (ℕ × ℕ)) (n : ℕ) → Next b l n → b ≡ (leb 1 (length l) && eqb (get_or (rights l) (length l - 1) 0 + 1) n)
unfolding Next rights
last-next true [] n h = absurd h
last-next false [] n h = refl
last-next true (x ∷ []) n h = sym (eq-eqb _ n h)
last-next false (x ∷ []) n h = sym (ne_eqb _ n (λ e. omega arith))
last-next b (x ∷ y ∷ l) n h =
    let e : length (x ∷ y ∷ l) - 1 ≡ suc (length (y ∷ l) - 1) = omega arith in
    last-next b (y ∷ l) n h ∙ rw (le-leb 1 (length (y ∷ l)) (omega arith), le-leb 1 (length (x ∷ y ∷ l)) (omega arith), e)

-- ---- old runs

-- a record whose part of the run buffer has good runs below the window count: an old row, or a new one, which has none
pub record Begun (x : Index) (r : Row) : Type 0 where
  pub fits : r.first + r.runs ≤ length x.runs
  pub good : GoodRuns (nat_abs x.windows) 0 (runs_of x r)

begun-new : (x : Index) (d : ℕ) (k : ℤ) → Begun x (new_row d k)
unfolding new_row Apart
begun-new x d k = record { fits = omega arith; good = record { plain = []; is = refl; apart = tt } }

pub begun-woven : (x : Index) → WellFormed x → (d : ℕ) (ks : List ℤ) → All (Begun x) (woven d x.rows ks)
begun-woven x g d ks = all-woven d _ _ ks
    (mem-all _ _ (λ r m. let o = all-mem _ _ (each_row x g) m in record { fits = o.fits; good = o.good })) (λ k m. begun-new x d k)

module _ (x : Index) (sum : ℕ → ℤ) (r : Row) (b : Begun x r) where
  abbrev old : ℕ
  old = nat_abs x.windows

  abbrev has : ℕ → Bool
  has = (grown x sum old r).has

  -- below the old window count the row has its old runs
  pub old-runs : runs has old ≡ b.good.plain
  old-runs =
      let m = b.good.plain in
      runs-cong has _ old (λ j l. grown-old x sum old r j l ∙ ap (λ (l : List Entry). any (in_run j) l) b.good.is ∙ entries-hold m j) ∙ apart-runs old 0 m b.good.apart

  pub old-size : length b.good.plain ≡ r.runs
  old-size = sym (length-map b.good.plain entry) ∙ ap length (sym b.good.is) ∙ length-runs_of x r b.fits

  pub old-count : run_count has old ≡ r.runs
  old-count = ap length old-runs ∙ old-size

-- ---- the two columns

pub length-entries : (left right : List ℕ) → length (entries left right) ≡ min (length left) (length right)
unfolding entries
length-entries [] right = omega arith
length-entries (x ∷ left) [] = omega arith
length-entries (x ∷ left) (y ∷ right) = omega (arith, length-entries left right)

entry_at : (left right : List ℕ) (i : ℕ) → i < length (entries left right) → get_or (entries left right) i (pos 0, pos 0) ≡ (pos (get_or left i 0), pos (get_or right i 0))
unfolding entries
entry_at [] right i l = absurd (omega arith)
entry_at (x ∷ left) [] i l = absurd (omega arith)
entry_at (x ∷ left) (y ∷ right) zero l = refl
entry_at (x ∷ left) (y ∷ right) (suc i) l = entry_at left right i (omega arith)

lefts-at : (l : List (ℕ × ℕ)) (i : ℕ) → get_or (lefts l) i 0 ≡ (get_or l i (0, 0)).0
unfolding lefts
lefts-at [] i = refl
lefts-at (x ∷ l) zero = refl
lefts-at (x ∷ l) (suc i) = lefts-at l i

rights-at : (l : List (ℕ × ℕ)) (i : ℕ) → get_or (rights l) i 0 ≡ (get_or l i (0, 0)).1
unfolding rights
rights-at [] i = refl
rights-at (x ∷ l) zero = refl
rights-at (x ∷ l) (suc i) = rights-at l i

module _ (x : Index) (left right : List ℕ) (is : x.runs ≡ entries left right) (r : Row) (b : Begun x r) where
  abbrev plain : List (ℕ × ℕ)
  plain = b.good.plain

  own-entry : (t : ℕ) → t < r.runs → ◌≡◌ {A = Entry} (pos (get_or left (r.first + t) 0), pos (get_or right (r.first + t) 0)) (entry (get_or plain t (0, 0)))
  own-entry t l =
      sym (entry_at left right _ (omega (arith, b.fits, ap length is)))
      ∙ ap (λ m. get_or m (r.first + t) (pos 0, pos 0)) (sym is)
      ∙ sym (get_or-drop _ x.runs t (pos 0, pos 0)) ∙ sym (get_or-take _ _ t (pos 0, pos 0) l)
      ∙ ap (λ m. get_or m t (pos 0, pos 0)) b.good.is ∙ List·get_d-map entry plain t (0, 0)

  -- the row's part of each column is that of its old runs
  pub left_at : (t : ℕ) → t < r.runs → get_or left (r.first + t) 0 ≡ get_or (lefts plain) t 0
  left_at t l = ap (λ e. nat_abs e.0) (own-entry t l) ∙ sym (lefts-at plain t)

  pub right-at : (t : ℕ) → t < r.runs → get_or right (r.first + t) 0 ≡ get_or (rights plain) t 0
  right-at t l = ap (λ e. nat_abs e.1) (own-entry t l) ∙ sym (rights-at plain t)

  -- the offset before the first new one is the row's exactly if its last run ends there
  pub joins-old : (sum : ℕ → ℤ) → before (grown x sum (nat_abs x.windows) r).has (nat_abs x.windows) ≡ last_ends r right (nat_abs x.windows)
  unfolding last_ends
  joins-old sum =
      let n = nat_abs x.windows in
      let p = (grown x sum n r).has in
      last-next (before p n) plain n (subst (λ (l : List (ℕ × ℕ)). Next (before p n) l n) (old-runs x sum r b) (runs-next p n))
      ∙ rw (old-size x sum r b) (by-test (leb 1 r.runs) (λ t. rw t (ends (leb-true 1 r.runs t))) (λ f. rw f))
    where
      ends : 1 ≤ r.runs → eqb (get_or (rights plain) (r.runs - 1) 0 + 1) (nat_abs x.windows) ≡ eqb (get_or right (r.first + r.runs - 1) 0 + 1) (nat_abs x.windows)
      ends h = let e : r.first + r.runs - 1 ≡ r.first + (r.runs - 1) = omega arith in rw (e, right-at (r.runs - 1) (omega arith))
