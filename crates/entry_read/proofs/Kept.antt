-- What the entry answers and leaves in the buffers is what is meant (`load-right`): by what the text comes to, and of a text that can be read by the head, the rows and the room.
use Prim.Native.Nat.{ℕ, zero, suc, ◌+◌, ◌-◌, ◌≤◌}
use lib.IntN.{nat_abs}
use lib.ListN.{length, take, drop, replicate, length-replicate, length-map}
use lib.Seq.{sets, sets-eq, take-length}
use mathlib.Core.Bool.{true}
use mathlib.Core.List.{List, [], ◌∷◌, ◌++◌, append-nil}
use Rattle.std.specs.Prelude.{None, Some, Ok, Err}
use Rattle.std.specs.declared.option.Option.{Option}
use mathlib.Core.Path.{◌≡◌, refl, sym, ap, ◌∙◌}
use native.Mathlib.Omega.{arith}
use Rattle.meaning_rows.specs.{declared.Head.Head, declared.Row.Row, Index.zero_row, Index.Index, Index.Entry, Index.lent, Judge.head_good, Judge.first_bad_row}
use Rattle.meaning_text.specs.{Form.Value, Read.fine, Read.unfit, Read.read_text, Read.line_of, Texts.index_form, Texts.index_said}
use Rattle.meaning_entries.specs.Buffers.{filled, IndexBuffers, run_room, lefts, rights, index_in}
use Rattle.meaning_entries.specs.{declared.Held.Held, declared.Refusal.Refusal, Refusal.first_refusal, Refusal.bad_line, Refusal.unreadable, Refusal.room_lines, Answers.Built, Answers.refusal, Answers.held, Answers.head_of, Load.text_index, Load.load_table, Load.load_refusal, Load.load_answer, Load.load_after, Demand2.LoadKept}
use Rattle.meaning_entries.proofs.Refused.{AllPass, end, more, here, is-passed, first-is, first-right, open_lines, passed-line, passed-behind, same-behind}
use Rattle.meaning_entries.proofs.{Lines.room-line, Demand2.load_kept, Again.text-fine}
use Rattle.refusals.specs.Refusal.{judged_line, judged-line}
use Rattle.text_judge.specs.{declared.Rows.Rows, Judged.judged_rows, Tally.no_rows, Tally.rows_from, Tally.head_held}
use Rattle.text_judge.proofs.{Bad.head-is, Bad.rows-judged, Bad.rows-good, Bad.rows-counted, Prefix.runs-held}
use Rattle.text_rows.specs.Line.{stored}
use Rattle.text_rows.proofs.{Filled.rows-filled}
use Rattle.entry_read.specs.Plan.{rows_table, plan_by, fit_plan, plan_scanned, plan_for, text_runs, held_lefts, held_rights, column_after, Loads}
use Rattle.entry_read.proofs.Planned.{on-verdict}

-- the row records, those from a place on made records of zeros
abbrev pub zeros_from : ℕ → List Row → List Row
zeros_from n rows = take n rows ++ replicate (length rows - n) zero_row

none-zeros : (rows : List Row) → zeros_from (length rows) rows ≡ rows
none-zeros rows = let e : length rows - length rows ≡ 0 = omega arith in rw (e, take-length rows) (append-nil rows)

-- the row records afterwards: those of the text, or nothing altered
unfoldable pub rows_after : List ℕ → Built → List Row → List Row
rows_after t (Ok m) rows = stored t m.rows (zeros_from m.rows rows)
rows_after t (Err r) rows = rows

-- the entry, by its plan
record Outcome (t : List ℕ) (b : IndexBuffers) (p : Built) : Type 0 where
  answer : p ≡ load_answer t b
  rows : rows_after t p b.rows ≡ (load_after t b).rows
  left : column_after p (held_lefts (text_runs t)) b.left ≡ (load_after t b).left
  right : column_after p (held_rights (text_runs t)) b.right ≡ (load_after t b).right

-- a refusal alters nothing
refused : (t : List ℕ) (b : IndexBuffers) (r : ℕ × ℕ) → load_refusal t b ≡ Some r → Outcome t b (Err (refusal r))
unfolding load_answer load_after column_after rows_after
refused t b r e =
    record {
      answer = rw (e, load_answer) refl;
      rows = rw (e, load_after) refl;
      left = rw (e, load_after) refl;
      right = rw (e, load_after) refl;
    }

drop-zeros : (k n : ℕ) → drop {A = ℕ} k (replicate n 0) ≡ replicate (n - k) 0
drop-zeros zero n = let e : n - 0 ≡ n = omega arith in rw e refl
drop-zeros (suc k) zero = let e : 0 - suc k ≡ 0 = omega arith in rw e refl
drop-zeros (suc k) (suc n) = let e : suc n - suc k ≡ n - k = omega arith in rw e (drop-zeros k n)

-- a column of new entries that fit, over zeros
column : (new old : List ℕ) → length new ≤ length old → sets (replicate (length old) 0) 0 new ≡ filled 0 new old
unfolding filled
column new old h =
    let e : 0 + length new ≡ length new = omega arith in
    sets-eq new _ 0 (omega (arith, length-replicate {A = ℕ} (length old) 0, h)) ∙ rw (e, drop-zeros _ (length old)) refl

-- a text that cannot be read
unread : (t : List ℕ) (b : IndexBuffers) (q : ℕ) → read_text index_form t ≡ unfit q → load_refusal t b ≡ Some (12, line_of t q)
unfolding load_table unreadable bad_line
unread t b q e = let z : 0 + line_of t q ≡ line_of t q = omega arith in first-is (here {c = unreadable index_form 0 t} (rw (e, bad_line, z) refl))

module _ (t : List ℕ) (b : IndexBuffers) (v : Value index_form) (e : read_text index_form t ≡ fine v) where
  abbrev X : Index
  X = index_said v

  abbrev h : Head
  h = head_held v

  abbrev c : Rows
  c = rows_from h no_rows v.1.1.1

  can-read : (unreadable index_form 0 t).place ≡ None
  unfolding unreadable bad_line
  can-read = rw (e, bad_line) refl

  -- where no row is bad the counts are those of the index
  same-room : AllPass (judged_line (judged_rows h c) ∷ []) → room_lines (length b.rows) c.rows (run_room b) c.runs ≡ room_lines (length b.rows) (length X.rows) (run_room b) (length X.runs)
  unfolding open_lines
  same-room p =
      let g = rows-good v (sym (rows-judged v) ∙ passed-line p 20) in
      let n = rows-counted v g.0 g.1 in
      λ i. room_lines (length b.rows) (n.0 i) (run_room b) (n.1 i)

  refusal_is : first_refusal (rows_table h c (length b.rows) (run_room b)) ≡ load_refusal t b
  unfolding rows_table load_table
  refusal_is = same-behind _ _ _ (λ p. ap first_refusal (same-room p)) ∙ rw (judged-line X _ (rows-judged v), ← text-fine t v e) (sym (first-right {a = unreadable index_form 0 t ∷ []} _ (more can-read end)))

  -- everything is good: the index is loaded
  module _ (none-refuses : load_refusal t b ≡ None) where
    passed : AllPass (load_table t b)
    passed = is-passed _ none-refuses

    good : (head_good (lent h [] [] []) ≡ true) × (c.good ≡ true)
    unfolding open_lines load_table
    good = rows-good v (sym (ap first_bad_row (text-fine t v e)) ∙ passed-line passed 20)

    counts : (c.rows ≡ length X.rows) × (c.runs ≡ length X.runs)
    counts = rows-counted v good.0 good.1

    head-right : h ≡ head_of X
    unfolding index_said
    head-right =
        let i = head-is v good.0 in
        λ j. record { window = (sym (ap nat_abs i.window)) j; width = (sym (ap nat_abs i.width)) j; windows = (sym (ap nat_abs i.windows)) j }

    rows_fit : length X.rows ≤ length b.rows
    unfolding open_lines load_table
    rows_fit = omega (arith, room-line _ (length (text_index t).rows) (passed-line passed 23), ap (λ (x : Index). length x.rows) (text-fine t v e))

    runs_fit : length X.runs ≤ run_room b
    unfolding open_lines load_table
    runs_fit = omega (arith, room-line (run_room b) _ (passed-line (passed-behind passed 23) 23), ap (λ (x : Index). length x.runs) (text-fine t v e))

    rows_right : stored t c.rows (zeros_from c.rows b.rows) ≡ filled zero_row X.rows b.rows
    unfolding filled index_said
    rows_right = rows-filled t v e good.0 good.1 c.rows b.rows counts.0 rows_fit

    left-right : sets (replicate (length b.left) 0) 0 (held_lefts X.runs) ≡ filled 0 (lefts X.runs) b.left
    left-right = ap (sets (replicate (length b.left) 0) 0) (runs-held v good.0 good.1).0 ∙ column _ b.left (omega (arith, length-map X.runs (λ (x : Entry). nat_abs x.0), runs_fit))

    right-right : sets (replicate (length b.right) 0) 0 (held_rights X.runs) ≡ filled 0 (rights X.runs) b.right
    right-right = ap (sets (replicate (length b.right) 0) 0) (runs-held v good.0 good.1).1 ∙ column _ b.right (omega (arith, length-map X.runs (λ (x : Entry). nat_abs x.1), runs_fit))

    runs-are : text_runs t ≡ X.runs
    runs-are = ap (λ (x : Index). x.runs) (text-fine t v e)

    loaded : Outcome t b (Ok (held h c.rows c.runs))
    unfolding load_answer load_after column_after rows_after index_in
    loaded = record {
      answer = rw (none-refuses, load_answer, text-fine t v e, ← head-right, ← counts.0, ← counts.1) refl;
      rows = rows_right ∙ rw (none-refuses, load_after, text-fine t v e) refl;
      left = ap (sets _ 0) (ap held_lefts runs-are) ∙ left-right ∙ rw (none-refuses, load_after, text-fine t v e) refl;
      right = ap (sets _ 0) (ap held_rights runs-are) ∙ right-right ∙ rw (none-refuses, load_after, text-fine t v e) refl;
    }

  by : (o : Option (ℕ × ℕ)) → o ≡ load_refusal t b → Outcome t b (plan_by o h c)
  by None q = loaded (sym q)
  by (Some r) q = refused t b r (sym q)

  by-refusal : Outcome t b (fit_plan h c (length b.rows) (run_room b))
  unfolding fit_plan
  by-refusal = by _ refusal_is

outcome : (t : List ℕ) (b : IndexBuffers) → Outcome t b (plan_for t (length b.rows) (run_room b))
unfolding plan_scanned
outcome t b =
    on-verdict (read_text index_form t)
    (λ v e. rw e (by-refusal t b v e))
    (λ q e. rw e (refused t b (12, line_of t q) (unread t b q e)))

-- no more records are filled than are lent
fit-by : (h : Head) (c : Rows) (rows runs : ℕ) (o : Option (ℕ × ℕ)) {m : Held} → first_refusal (rows_table h c rows runs) ≡ o → plan_by o h c ≡ Ok m → m.rows ≤ rows
unfolding open_lines rows_table
fit-by h c rows runs None {m} e q =
    let s : c.rows ≡ m.rows = ap count-in q in
    omega (arith, room-line rows c.rows (passed-line (is-passed (rows_table h c rows runs) e) 23))
  where
    count-in : Built → ℕ
    count-in (Ok m) = m.rows
    count-in (Err r) = 0
fit-by h c rows runs (Some r) e q = let z : ◌≡◌ {A = ℕ} 0 1 = cc in absurd (omega arith)

fit-inside : (h : Head) (c : Rows) (rows runs : ℕ) {m : Held} → fit_plan h c rows runs ≡ Ok m → m.rows ≤ rows
unfolding fit_plan
fit-inside h c rows runs q = fit-by h c rows runs _ refl q

plan-inside : (t : List ℕ) (rows runs : ℕ) {m : Held} → plan_for t rows runs ≡ Ok m → m.rows ≤ rows
unfolding plan_scanned
plan-inside t rows runs {m} q =
    on-verdict (read_text index_form t)
    (λ v e. fit-inside (head_held v) _ rows runs (rw e at q))
    (λ p e. clash (rw e at q))
  where
    clash : {r : Refusal} {A : Type 0} → Err r ≡ Ok m → A
    clash e = let z : ◌≡◌ {A = ℕ} 0 1 = cc in absurd (omega arith)

pub loads-inside : {t : List ℕ} {rows : ℕ} {left right left' right' : List ℕ} {m : Held} → Loads t rows left right (Ok m) left' right' → m.rows ≤ rows
loads-inside {t} {rows} l = plan-inside t rows _ (sym l.planned)

-- the entry keeps its promise
pub load-right : (t : List ℕ) (rows rows' : List Row) (left right left' right' : List ℕ) (p : Built) → Loads t (length rows) left right p left' right' → rows' ≡ rows_after t p rows
    → LoadKept t (record { rows = rows; left = left; right = right }) p (record { rows = rows'; left = left'; right = right' })
load-right t rows rows' left right left' right' p l r =
    let b : IndexBuffers = record { rows = rows; left = left; right = right } in
    let o = outcome t b in
    let q = l.planned in
    load_kept t b p (record { rows = rows'; left = left'; right = right' }) (q ∙ o.answer)
    (same-buffers _ rows' left' right' (r ∙ ap (λ (x : Built). rows_after t x rows) q ∙ o.rows) (l.lefts ∙ ap (λ (x : Built). column_after x (held_lefts (text_runs t)) left) q ∙ o.left) (l.rights ∙ ap (λ (x : Built). column_after x (held_rights (text_runs t)) right) q ∙ o.right))
  where
    same-buffers : (x : IndexBuffers) (rows : List Row) (left right : List ℕ) → rows ≡ x.rows → left ≡ x.left → right ≡ x.right → record { rows = rows; left = left; right = right } ≡ x
    same-buffers x rows left right e f g = λ i. record { rows = e i; left = f i; right = g i }

-- rows that were filled, and rows of a text that is refused
pub rows-stored : (t : List ℕ) (m : Held) (rows : List Row) → stored t m.rows (zeros_from m.rows rows) ≡ rows_after t (Ok m) rows
unfolding rows_after
rows-stored t m rows = refl

pub rows-kept : (t : List ℕ) (r : Refusal) (rows : List Row) → rows ≡ rows_after t (Err r) rows
unfolding rows_after
rows-kept t r rows = refl
