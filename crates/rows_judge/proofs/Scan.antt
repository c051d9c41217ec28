-- Judging a row's runs, one run at a time: `scan-next` for a good run, `scan-bad` for a bad one, `scan-end` where none is left. `part-next` has the first run of a part of the run buffer.
use Rattle.meaning_numbers.proofs.Prelude.{◌≡◌, refl, sym, ◌∙◌, ap, Bool, true, false, cond, ◌&&◌, ◌||◌, false≢true, List, [], ◌∷◌, ℕ, zero, suc, ◌+◌, ◌-◌, ◌<◌, ◌≤◌, arith, leb, ltb, ℤ, pos, length, get_or, take, drop, leb-true, ltb-true, ltb-false, le-leb, lt-leb, by-test, of-both}
use Rattle.meaning_rows.specs.{Index.Entry, Index.entries, Judge.runs_good, Judge.run_lengths}
use Rattle.std.specs.Prelude.{None, Some}
use Rattle.std.specs.declared.option.Option.{Option}
use Rattle.rows_judge.specs.Judging.{scan}
pub use Rattle.meaning_numbers.proofs.Tests.{both}
pub use Rattle.meaning_rows.proofs.Grown.{length-entries}

-- ---- a part of the run buffer

-- the entries from i up to and not with `to`
abbrev pub part : List ℕ → List ℕ → ℕ → ℕ → List Entry
part left right i to = take (to - i) (drop i (entries left right))

entries-drop : (left right : List ℕ) (i : ℕ) → i < length left → i < length right
    → drop i (entries left right) ≡ (pos (get_or left i 0), pos (get_or right i 0)) ∷ drop (suc i) (entries left right)
unfolding entries
entries-drop [] right i h k = absurd (omega arith)
entries-drop (x ∷ left) [] i h k = absurd (omega arith)
entries-drop (x ∷ left) (y ∷ right) zero h k = refl
entries-drop (x ∷ left) (y ∷ right) (suc i) h k = entries-drop left right i (omega arith) (omega arith)

pub part-next : (left right : List ℕ) (i to : ℕ) → i < to → to ≤ length left → to ≤ length right
    → part left right i to ≡ (pos (get_or left i 0), pos (get_or right i 0)) ∷ part left right (i + 1) to
part-next left right i to l h k =
    let e : to - i ≡ suc (to - (i + 1)) = omega arith in
    let n : i + 1 ≡ suc i = omega arith in
    rw (e, entries-drop left right i (omega arith) (omega arith), n) refl

pub part_none : (left right : List ℕ) (i to : ℕ) → to ≤ i → part left right i to ≡ []
part_none left right i to l = let e : to - i ≡ 0 = omega arith in rw e refl

-- ---- one run

-- a run, after runs that end below `least`
abbrev pub run_good : ℕ → ℕ → ℕ → ℕ → Bool
run_good windows least l r = leb least l && (leb l r && ltb r windows)

-- what the test says
pub record GoodRun (windows least l r : ℕ) : Type 0 where
  pub below : least ≤ l
  pub order : l ≤ r
  pub inside : r < windows

pub good-run : (windows least l r : ℕ) → run_good windows least l r ≡ true → GoodRun windows least l r
good-run windows least l r e =
    let a = both _ _ e in let b = both _ _ a.1 in
    record { below = leb-true least l a.0; order = leb-true l r b.0; inside = ltb-true r windows b.1 }

pub all-four : (a b c d : Bool) → (a && (b && c)) ≡ true → (a && (b && (c && d))) ≡ d
all-four true true true d e = refl
all-four true true false d e = absurd (false≢true e)
all-four true false c d e = absurd (false≢true e)
all-four false b c d e = absurd (false≢true e)

pub not-all : (a b c d : Bool) → (a && (b && c)) ≡ false → (a && (b && (c && d))) ≡ false
not-all true true true d e = absurd (false≢true (sym e))
not-all true true false d e = refl
not-all true false c d e = refl
not-all false b c d e = refl

module _ (windows least total l r : ℕ) (rest : List Entry) where
  pub scan-next : run_good windows least l r ≡ true → scan (pos windows) (pos least) total ((pos l, pos r) ∷ rest) ≡ scan (pos windows) (pos (r + 2)) (total + (r + 1 - l)) rest
  unfolding scan runs_good run_lengths
  scan-next e =
      let n : total + (r + 1 - l + run_lengths rest) ≡ total + (r + 1 - l) + run_lengths rest = omega arith in
      rw (all-four _ (leb l r) _ _ e, n) refl

  pub scan-bad : run_good windows least l r ≡ false → scan (pos windows) (pos least) total ((pos l, pos r) ∷ rest) ≡ None
  unfolding scan runs_good
  scan-bad e = rw (not-all _ (leb l r) _ _ e) refl

pub scan-end : (windows least : ℤ) (total : ℕ) → scan windows least total [] ≡ Some total
unfolding scan runs_good run_lengths
scan-end windows least total = let n : total + 0 ≡ total = omega arith in rw n refl

-- ---- runs of which only the last is held to the windows

-- what is told of runs, where the last before them ends below `least`
abbrev pub inside : ℕ → ℕ → Option ℕ → Option ℕ
inside windows least t = cond (leb least (windows + 1)) t None

cond_same : (b : Bool) (t : Option ℕ) → cond b t t ≡ t
cond_same true t = refl
cond_same false t = refl

stray : (windows least l r : ℕ) → (ltb l least || ltb r l) ≡ true → run_good windows least l r ≡ false
stray windows least l r e =
    by-test
    (ltb l least)
    (λ p. rw (lt-leb least l (ltb-true l least p)) refl)
    (λ p. let q : ltb r l ≡ true = rw p at e in rw (le-leb least l (ltb-false l least p), lt-leb l r (ltb-true r l q)) refl)

neither-is : (a b : Bool) → (a || b) ≡ false → (a ≡ false) × (b ≡ false)
neither-is true b e = absurd (false≢true (sym e))
neither-is false b e = (refl, e)

-- a run that stands above those before
pub record Follows (least l r : ℕ) : Type 0 where
  pub below : least ≤ l
  pub order : l ≤ r

pub follows : (least l r : ℕ) → (ltb l least || ltb r l) ≡ false → Follows least l r
follows least l r e = let p = neither-is _ _ e in record { below = ltb-false l least p.0; order = ltb-false r l p.1 }

module _ (windows least total l r : ℕ) (rest : List Entry) where
  pub inside-bad : (ltb l least || ltb r l) ≡ true → inside windows least (scan (pos windows) (pos least) total ((pos l, pos r) ∷ rest)) ≡ None
  inside-bad e = let n = scan-bad windows least total l r rest (stray windows least l r e) in ap (inside windows least) n ∙ cond_same (leb least _) None

  pub inside-next : Follows least l r
      → inside windows (r + 2) (scan (pos windows) (pos (r + 2)) (total + (r + 1 - l)) rest) ≡ inside windows least (scan (pos windows) (pos least) total ((pos l, pos r) ∷ rest))
  inside-next f =
      let h = f.below in let k = f.order in
      by-test
      (ltb r windows)
      (λ e. let i = ltb-true r windows e in
      let n = scan-next windows least total l r rest (of-both (le-leb least l h) (of-both (le-leb l r k) e)) in
      rw (le-leb (r + 2) (windows + 1) (omega arith), le-leb least (windows + 1) (omega arith), n) refl)
      (λ e. let i = ltb-false r windows e in
      let n = scan-bad windows least total l r rest (rw (le-leb least l h, le-leb l r k, e) refl) in
      let o : inside windows (r + 2) (scan (pos windows) (pos (r + 2)) (total + (r + 1 - l)) rest) ≡ None = rw (lt-leb (r + 2) (windows + 1) (omega arith)) refl in
      o ∙ sym (ap (inside windows least) n ∙ cond_same (leb least (windows + 1)) None))
