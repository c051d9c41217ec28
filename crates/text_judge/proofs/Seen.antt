-- The tally is a view of what has been said, so that a pass over a text comes to the text's own head and rows (`text-scanned`); its counts stay small (`tell-fits`, `shut-fits`).
use Rattle.meaning_numbers.proofs.Prelude.{◌≡◌, refl, sym, ap, ◌∙◌, ◌&&◌, List, [], ◌∷◌, ◌++◌, ℕ, ◌+◌, ◌≤◌, arith, ℤ, pos, lt_z, zmach, z-abs}
use Rattle.std.proofs.Common.{Result, Ok, Err}
use Rattle.meaning_rows.specs.{declared.Head.Head, Index.Entry}
use Rattle.meaning_text.specs.{Form.Value, Read.Verdict, Read.fine, Read.unfit, Read.read_text, Texts.index_form, Texts.row_form}
use Rattle.meaning_text.proofs.{Automaton.verdict_of, Reading.on-flag}
use Rattle.numbers.specs.Narrow.{clamp, held}
use Rattle.rows_judge.proofs.Scan.{both, run_good, good-run}
use Rattle.text_index.specs.declared.Field.{Field}
use Rattle.text_index.proofs.{Follow.Said, Follow.told, Follow.closed, Follow.value, Order.place_part, Order.Order, View.end_of, View.Whole, View.text-viewed}
use Rattle.text_judge.specs.Tally.{no_runs, run_next, runs_from, Sound, no_rows, row_next, rows_from, start_tally, tell_tally, shut_tally, Fits, head_held, scanned_text, scanned, kept_scanned}
use Rattle.text_judge.specs.{declared.Runs.Runs, declared.Rows.Rows, declared.Tally.Tally}

-- ---- one more at the end

pub runs-more : (W : ℕ) (s : Runs) (l : List Entry) (e : Entry) → runs_from W s (l ++ (e ∷ [])) ≡ run_next W (runs_from W s l) (held e.0) (held e.1)
unfolding runs_from
runs-more W s [] e = refl
runs-more W s (x ∷ l) e = runs-more W (run_next W s (held x.0) (held x.1)) l e

pub rows_more : (h : Head) (s : Rows) (l : List (Value row_form)) (r : Value row_form)
    → rows_from h s (l ++ (r ∷ [])) ≡ row_next h (rows_from h s l) (clamp r.0) (clamp r.1.0) (runs_from h.windows no_runs r.1.1)
unfolding rows_from
rows_more h s [] r = refl
rows_more h s (x ∷ l) r = rows_more h (row_next h s (clamp x.0) (clamp x.1.0) (runs_from h.windows no_runs x.1.1)) l r

-- ---- the view

abbrev pub tally_of : Said → Tally
tally_of g = record {
  head = head_held (value g);
  rows = rows_from (head_held (value g)) no_rows g.rows;
  row = record { low = clamp g.low; up = clamp g.up; left = held g.left; runs = runs_from (held g.windows) no_runs g.runs };
}

pub tells : (p : Field) (z : ℤ) (g : Said) → Order (place_part p) g → tally_of (told p z g) ≡ tell_tally p z (tally_of g)
unfolding tell_tally runs_from rows_from
tells Field.Window z g o = rw (o.0, o.1) refl
tells Field.Width z g o = rw (o.0, o.1) refl
tells Field.Windows z g o = rw (o.0, o.1) refl
tells Field.Low z g o = refl
tells Field.Up z g o = refl
tells Field.Left z g o = refl
tells Field.Right z g o = rw (runs-more _ no_runs g.runs (g.left, z)) refl

pub shuts : (g : Said) → tally_of (closed g) ≡ shut_tally (tally_of g)
unfolding shut_tally runs_from
shuts g = rw (rows_more _ no_rows g.rows (g.low, (g.up, g.runs))) refl

abbrev out_of : Tally → Result (Head × Rows) ℕ
out_of t = Ok (t.head, t.rows)

abbrev said : Verdict (Result (Head × Rows) ℕ) → Result (Head × Rows) ℕ
said (fine s) = s
said (unfit p) = Err p

kept-said : (x : Verdict Tally) → kept_scanned x ≡ said (verdict_of out_of x)
kept-said (fine t) = refl
kept-said (unfit p) = refl

text-said : (x : Verdict (Value index_form)) → said (verdict_of scanned_text x) ≡ scanned x
text-said (fine v) = refl
text-said (unfit p) = refl

pub start_is : tally_of (Rattle.text_index.proofs.Follow.nothing_said) ≡ start_tally
unfolding held runs_from rows_from
start_is = refl

-- a pass over a text comes to its own head and rows
pub text-scanned : (t : List ℕ) → kept_scanned (end_of (Whole tell_tally shut_tally start_tally t)) ≡ scanned (read_text index_form t)
text-scanned t =
    kept-said (end_of (Whole tell_tally shut_tally start_tally t))
    ∙ ap (λ (x : Tally). said (verdict_of out_of (end_of (Whole tell_tally shut_tally x t)))) (sym start_is)
    ∙ ap said (text-viewed tell_tally shut_tally tally_of tells shuts out_of scanned_text (λ g o. refl) t)
    ∙ text-said (read_text index_form t)

-- ---- small counts

pub held-most : (z : ℤ) → held z ≤ 4294967295
unfolding held
held-most z =
    on-flag (lt_z z (pos 0))
    (λ e. rw e (omega arith))
    (λ e. on-flag (lt_z (pos 4294967295) z) (λ f. rw (e, f) (omega arith)) (λ f. rw (e, f) (omega (zmach, z-abs z))))

sound-next : (W : ℕ) (s : Runs) (l r : ℕ) → r ≤ 4294967295 → Sound s → Sound (run_next W s l r)
unfolding run_next
sound-next W s l r h o =
    on-flag _
    (λ e. let g = good-run W s.least l r (both s.good (run_good W s.least l r) e).1 in
    rw e (record { total = omega arith; least = omega arith }))
    (λ e. rw e (record { total = omega arith; least = omega arith }))

count_next : (W : ℕ) (s : Runs) (l r : ℕ) → (run_next W s l r).count ≡ s.count + 1
unfolding run_next
count_next W s l r = on-flag (s.good && run_good W s.least l r) (λ e. rw e refl) (λ e. rw e refl)

no-sound : Sound no_runs
no-sound = record { total = omega arith; least = omega arith }

pub start_fits : Fits start_tally 0
start_fits = record { sound = no-sound; rows = omega arith; runs = omega arith }

pub same-fits : (t : Tally) (i : ℕ) → Fits t i → Fits t (i + 1)
same-fits t i f = record { sound = f.sound; rows = omega arith; runs = omega arith }

pub tell-fits : (p : Field) (z : ℤ) (t : Tally) (i : ℕ) → Fits t i → Fits (tell_tally p z t) (i + 1)
unfolding tell_tally
tell-fits Field.Window z t i f = record { sound = f.sound; rows = omega arith; runs = omega arith }
tell-fits Field.Width z t i f = record { sound = f.sound; rows = omega arith; runs = omega arith }
tell-fits Field.Windows z t i f = record { sound = f.sound; rows = omega arith; runs = omega arith }
tell-fits Field.Low z t i f = record { sound = f.sound; rows = omega arith; runs = omega arith }
tell-fits Field.Up z t i f = record { sound = no-sound; rows = omega arith; runs = omega arith }
tell-fits Field.Left z t i f = record { sound = f.sound; rows = omega arith; runs = omega arith }
tell-fits Field.Right z t i f =
    record { sound = sound-next _ t.row.runs t.row.left (held z) (held-most z) f.sound; rows = omega arith; runs = omega (arith, count_next t.head.windows t.row.runs t.row.left (held z)) }

row_counts : (h : Head) (s : Rows) (low up : ℤ) (o : Runs) → ((row_next h s low up o).rows ≤ s.rows + 1) × ((row_next h s low up o).runs ≤ s.runs + o.count)
unfolding row_next
row_counts h s low up o = on-flag (s.good && Rattle.text_judge.specs.Tally.row_fits h s low up o) (λ e. rw e (omega arith, omega arith)) (λ e. rw e (omega arith, omega arith))

pub shut-fits : (t : Tally) (i : ℕ) → Fits t i → Fits (shut_tally t) (i + 1)
unfolding shut_tally
shut-fits t i f =
    let n = row_counts t.head t.rows t.row.low t.row.up t.row.runs in
    record { sound = no-sound; rows = omega arith; runs = omega arith }
