-- The columns of the run buffer are a view of what has been said, so that a pass over a text leaves the text's own runs there (`text-columns`).
use Prim.Native.Nat.{ℕ, ◌+◌, ◌<◌, ◌≤◌, ◌^◌}
use lib.IntN.{ℤ, pos}
use lib.ListN.{length, get_or, set, length-append, length-map, length-set}
use lib.Seq.{sets}
use mathlib.Core.Bool.{Bool, true, false, cond}
use mathlib.Core.List.{List, [], ◌∷◌, ◌++◌, map, append_assoc, append-nil}
use mathlib.Core.Path.{◌≡◌, refl, sym, ap, ◌∙◌}
use native.Mathlib.Omega.{arith}
use Rattle.meaning_rows.specs.Index.{Entry, RangeRow, all_runs}
use Rattle.meaning_text.specs.{Form.Value, Read.Verdict, Read.fine, Read.unfit, Read.read_text, Texts.index_form, Texts.row_said, Texts.index_said}
use Rattle.meaning_text.proofs.{Automaton.verdict_of, Automaton.at_end, Sets.sets-append}
use Rattle.numbers.specs.Narrow.{held}
use Rattle.text_index.specs.{declared.Field.Field, declared.State.State, declared.Moved.Moved, Step.index_step, View.kept_at}
use Rattle.text_index.proofs.Order.{place_part, Order}
use Rattle.text_index.proofs.Follow.{start, Said, nothing_said, told, closed, value}
use Rattle.text_index.proofs.View.{end_of, Whole, text-viewed, Kept, kept-start, kept-to, kept-value, kept-closed, kept-refuse, kept-end}
use Rattle.text_event.specs.{declared.Event.Event, Event.Quiet, Event.RunsFrom, Event.EventAt, Event.at_runs}
use Rattle.text_event.proofs.EventLaws.{quiet_keeps, value_keeps, run-keeps, row_keeps, runs-keeps}
use Rattle.text_judge.proofs.{Bad.held-pos, Prefix.map-append}
use Rattle.entry_read.specs.{Plan.held_lefts, Plan.held_rights, Runs.is_left, Runs.is_right, Runs.Columns, Runs.tell_columns, Runs.run_stored, Runs.FilledRuns}
use Rattle.entry_read.proofs.Runs.{shut_columns, start_columns}

runs_append : (a b : List RangeRow) → all_runs (a ++ b) ≡ all_runs a ++ all_runs b
unfolding all_runs
runs_append [] b = refl
runs_append (r ∷ a) b = rw (runs_append a b) (sym (append_assoc r.runs _ _))

-- the runs so far: of the closed rows, and of the row that is open
abbrev entries_of : Said → List Entry
entries_of g = all_runs (map row_said g.rows) ++ g.runs

-- one more at the end
column-more : (f : Entry → ℕ) (old : List ℕ) (l : List Entry) (e : Entry) → sets old 0 (map f (l ++ (e ∷ []))) ≡ set (sets old 0 (map f l)) (length l) (f e)
column-more f old l e =
    let n : 0 + length (map f l) ≡ length l = omega (arith, length-map l f) in
    rw (map-append f l _) (sets-append (map f l) _ old 0 ∙ rw n refl)

module _ (left right : List ℕ) where
  abbrev columns_of : Said → Columns
  columns_of g = record { left = held g.left; count = length (entries_of g); lefts = sets left 0 (held_lefts (entries_of g)); rights = sets right 0 (held_rights (entries_of g)) }

  tells : (p : Field) (z : ℤ) (g : Said) → Order (place_part p) g → columns_of (told p z g) ≡ tell_columns p z (columns_of g)
  unfolding tell_columns
  tells Field.Window z g o = refl
  tells Field.Width z g o = refl
  tells Field.Windows z g o = refl
  tells Field.Low z g o = refl
  tells Field.Up z g o = rw o refl
  tells Field.Left z g o = refl
  tells Field.Right z g o =
      let a = sym (append_assoc (all_runs (map row_said g.rows)) g.runs ((g.left, z) ∷ [])) in
      rw (a, length-append (entries_of g) ((g.left, z) ∷ []), column-more (λ e. held e.0) left _ (g.left, z), column-more (λ e. held e.1) right _ (g.left, z)) refl

  closed_same : (g : Said) → entries_of (closed g) ≡ entries_of g
  unfolding all_runs
  closed_same g =
      append-nil _
      ∙ ap all_runs (map-append row_said g.rows ((g.low, (g.up, g.runs)) ∷ []))
      ∙ runs_append (map row_said g.rows) _
      ∙ rw (append-nil g.runs)

  shuts : (g : Said) → columns_of (closed g) ≡ shut_columns (columns_of g)
  shuts g = rw (closed_same g)

  abbrev out_of : Columns → List ℕ × List ℕ
  out_of t = (t.lefts, t.rights)

  abbrev say : Value index_form → List ℕ × List ℕ
  say v = (sets left 0 (held_lefts (index_said v).runs), sets right 0 (held_rights (index_said v).runs))

  ended : (g : Said) → g.runs ≡ [] → out_of (columns_of g) ≡ say (value g)
  unfolding index_said
  ended g o =
      let e = ap (λ (l : List Entry). all_runs (map row_said g.rows) ++ l) o ∙ append-nil (all_runs _) in
      ap (λ (l : List Entry). (sets left 0 (held_lefts l), sets right 0 (held_rights l))) e

  start_is : columns_of nothing_said ≡ start_columns left right
  unfolding held all_runs
  start_is = refl

  -- what a pass over a text comes to
  abbrev ReadTo : List ℕ → Verdict Columns
  ReadTo t = end_of (Whole tell_columns shut_columns (start_columns left right) t)

  text-columns : (t : List ℕ) → verdict_of out_of (ReadTo t) ≡ verdict_of say (read_text index_form t)
  text-columns t =
      ap (λ (x : Columns). verdict_of out_of (end_of (Whole tell_columns shut_columns x t))) (sym start_is)
      ∙ text-viewed tell_columns shut_columns columns_of tells shuts out_of say ended t

  -- a pass that ended with what is kept
  pub filled-by : (t : List ℕ) (x : Columns) → ReadTo t ≡ fine x → FilledRuns t left right x.lefts x.rights
  unfolding FilledRuns
  filled-by t x e v h =
      let q = sym (ap (verdict_of out_of) e) ∙ text-columns t ∙ ap (verdict_of say) h in
      let s = fine-same q in
      (ap (λ (y : List ℕ × List ℕ). y.0) s, ap (λ (y : List ℕ × List ℕ). y.1) s)
    where
      fine-same : {A : Type 0} {a b : A} → fine a ≡ fine b → a ≡ b
      fine-same e = cc

  -- a pass over a text that cannot be read
  pub filled_none : (t : List ℕ) (p : ℕ) (left' right' : List ℕ) → ReadTo t ≡ unfit p → FilledRuns t left right left' right'
  unfolding FilledRuns
  filled_none t p left' right' e v h = clash (sym (ap (verdict_of out_of) e) ∙ text-columns t ∙ ap (verdict_of say) h)
    where
      clash : {A X : Type 0} {a : A} {n : ℕ} → unfit n ≡ fine a → X
      clash q = let z : ◌≡◌ {A = ℕ} 0 1 = cc in absurd (omega arith)

-- ---- the loop

-- after i bytes
pub record Filling (text left₀ right₀ left right : List ℕ) (s : State) (l k i : ℕ) : Type 0 where
  pub kept : Kept tell_columns shut_columns (start_columns left₀ right₀) text s (record { left = l; count = k; lefts = left; rights = right }) i
  pub count : k ≤ i
  pub left-long : length left ≡ length left₀
  pub right-long : length right ≡ length right₀

pub filling-start : (text left right : List ℕ) → Filling text left right left right start.state 0 0 0
filling-start text left right = record { kept = kept-start tell_columns shut_columns _ text; count = omega arith; left-long = refl; right-long = refl }

-- a run of numbers that are held as they are
pub run-stored : (a b : ℕ) (t : Columns) → a < 2 ^ 32 → b < 2 ^ 32 → tell_columns Field.Right (pos b) (tell_columns Field.Left (pos a) t) ≡ run_stored a b t.count t.lefts t.rights
unfolding tell_columns
run-stored a b t h g = rw (held-pos a (omega arith), held-pos b (omega arith)) refl

set_long : (t : Bool) (l : List ℕ) (k x : ℕ) → length (cond t (set l k x) l) ≡ length l
set_long true l k x = length-set l k x
set_long false l k x = refl

count_most : (t : Bool) (k : ℕ) → cond t (k + 1) k ≤ k + 1
count_most true k = omega arith
count_most false k = omega arith

no_end : (p : Field) → (p ≡ Field.Left → ⊥) → (p ≡ Field.Right → ⊥) → (is_left p ≡ false) × (is_right p ≡ false)
no_end Field.Window f g = (refl, refl)
no_end Field.Width f g = (refl, refl)
no_end Field.Windows f g = (refl, refl)
no_end Field.Low f g = (refl, refl)
no_end Field.Up f g = (refl, refl)
no_end Field.Left f g = absurd (f refl)
no_end Field.Right f g = absurd (g refl)

module _ (text left₀ right₀ : List ℕ) where
  abbrev at-start : Columns
  at-start = start_columns left₀ right₀

  -- the same, of columns
  abbrev pub Fill : State → Columns → ℕ → Type 0
  Fill s t i = Filling text left₀ right₀ t.lefts t.rights s t.left t.count i

  to : (s : State) (t : Columns) (i : ℕ) → Fill s t i → i < length text → (n : State) → index_step s (get_or text i 0) ≡ Moved.To n → Fill n t (i + 1)
  to s t i r h n e = record { kept = kept-to tell_columns shut_columns at-start text s t i r.kept h n e; count = omega arith; left-long = r.left-long; right-long = r.right-long }

  value-to : (s : State) (t : Columns) (i : ℕ) → Fill s t i → i < length text → (n : State) (p : Field) (z : ℤ) → index_step s (get_or text i 0) ≡ Moved.Value n p z → Fill n (tell_columns p z t) (i + 1)
  unfolding tell_columns
  value-to s t i r h n p z e = record {
    kept = kept-value tell_columns shut_columns at-start text s t i r.kept h n p z e;
    count = omega (arith, count_most (is_right p) t.count);
    left-long = set_long (is_right p) t.lefts t.count t.left ∙ r.left-long;
    right-long = set_long (is_right p) t.rights t.count (held z) ∙ r.right-long;
  }

  -- runs one after the other
  pub filling-runs : {t u : Columns} {i j : ℕ} → RunsFrom tell_columns text t i u j → Fill at_runs t i → Fill at_runs u j
  filling-runs = runs-keeps tell_columns text Fill to value-to

  module _ {left right : List ℕ} {s : State} {l k i : ℕ} (r : Filling text left₀ right₀ left right s l k i) where
    abbrev here : Columns
    here = record { left = l; count = k; lefts = left; rights = right }

    quiet : {n : State} {j : ℕ} → Quiet text s i n j → Fill n here j
    quiet q = quiet_keeps tell_columns text Fill to value-to here q r

    pub filling-run : (a b j : ℕ) → a < 2 ^ 32 → b < 2 ^ 32 → EventAt text s i (Event.Run a b j) → Fill at_runs (run_stored a b k left right) j
    unfolding tell_columns
    filling-run a b j h g e = rw (held-pos a (omega arith), held-pos b (omega arith)) at (run-keeps tell_columns text Fill to value-to here e.1 (rw e.0 at r))

    pub filling-row : (low up : ℤ) (a b j : ℕ) → a < 2 ^ 32 → b < 2 ^ 32 → EventAt text s i (Event.Row low up a b j) → Fill at_runs (run_stored a b k left right) j
    unfolding tell_columns
    filling-row low up a b j h g e = rw (held-pos a (omega arith), held-pos b (omega arith)) at (row_keeps tell_columns text Fill to value-to here e.1 (rw e.0 at r))

    pub filling-value : (n : State) (p : Field) (z : ℤ) (j : ℕ) → EventAt text s i (Event.Value n p z j)
        → Filling text left₀ right₀ (cond (is_right p) (set left k l) left) (cond (is_right p) (set right k (held z)) right) n (cond (is_left p) (held z) l) (cond (is_right p) (k + 1) k) j
    unfolding tell_columns
    filling-value n p z j e = value_keeps tell_columns text Fill to value-to here e r

    -- a number that is no end of a run
    pub filling-other : (n : State) (p : Field) (z : ℤ) (j : ℕ) → (p ≡ Field.Left → ⊥) → (p ≡ Field.Right → ⊥) → EventAt text s i (Event.Value n p z j) → Filling text left₀ right₀ left right n l k j
    filling-other n p z j f g e = let q = no_end p f g in rw (q.0, q.1) at (filling-value n p z j e)

    pub filling-closed : (n : State) (j : ℕ) → EventAt text s i (Event.Closed n j) → Filling text left₀ right₀ left right n l k j
    filling-closed n j e =
        let q = quiet e.quiet in
        rw e.next (record { kept = kept-closed tell_columns shut_columns at-start text e.last here e.place q.kept e.inside n e.ends; count = omega arith; left-long = r.left-long; right-long = r.right-long })

    pub filling-refuse : (n : State) (j : ℕ) → EventAt text s i (Event.Refuse n j) → FilledRuns text left₀ right₀ left right
    filling-refuse n j e = filled_none left₀ right₀ text j left right (kept-refuse tell_columns shut_columns at-start text n here j (quiet e.0).kept e.1 e.2)

    pub filling-end : (n : State) (j : ℕ) → EventAt text s i (Event.End n j) → FilledRuns text left₀ right₀ left right
    filling-end n j e = by_state n (kept-end tell_columns shut_columns at-start text n here j (quiet e.0).kept e.1)
      where
        by_state : (q : State) → ReadTo left₀ right₀ text ≡ at_end (kept_at q here) j → FilledRuns text left₀ right₀ left right
        by_state (State.In w m) d = filled_none left₀ right₀ text j left right d
        by_state (State.At p m) d = filled_none left₀ right₀ text j left right d
        by_state (State.Before t) d = filled_none left₀ right₀ text j left right d
        by_state State.Done d = filled-by left₀ right₀ text here d
