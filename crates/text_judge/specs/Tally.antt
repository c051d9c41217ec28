-- What is known of an index text so far: its head, its closed rows and its open row, in numbers of the types that the code has, and how a number and a row's end move it.
use Rattle.std.specs.Prelude.{ℕ, ◌+◌, ◌-◌, ◌≤◌, leb, ℤ, pos, Bool, true, false, cond, ◌&&◌, List, [], ◌∷◌, Result, Ok, Err}
use Rattle.meaning_curves.specs.Limits.{lowest_end}
use Rattle.meaning_rows.specs.{declared.Head.Head, Index.Entry, Index.lent, Judge.range_good}
use Rattle.meaning_text.specs.{Form.Value, Read.Verdict, Read.fine, Read.unfit, Texts.index_form, Texts.row_form}
use Rattle.numbers.specs.Narrow.{clamp, held}
use Rattle.rows_judge.proofs.Scan.{run_good}
use Rattle.text_index.specs.declared.Field.{Field}
use Rattle.text_judge.specs.{declared.Runs.Runs, declared.Open.Open, declared.Rows.Rows, declared.Tally.Tally}

-- ---- runs

abbrev pub no_runs : Runs
no_runs = record { count = 0; good = true; least = 0; total = 0 }

-- one run more, below so many windows
unfoldable pub run_next : ℕ → Runs → ℕ → ℕ → Runs
run_next windows s l r =
    cond (s.good && run_good windows s.least l r) (record { count = s.count + 1; good = true; least = r + 2; total = s.total + (r + 1 - l) })
    (record { count = s.count + 1; good = false; least = 0; total = 0 })

-- runs after others
unfoldable pub runs_from : ℕ → Runs → List Entry → Runs
runs_from windows s [] = s
runs_from windows s (e ∷ l) = runs_from windows (run_next windows s (held e.0) (held e.1)) l

-- the lengths are small
pub record Sound (s : Runs) : Type 0 where
  pub total : s.total ≤ s.least
  pub least : s.least ≤ 4294967297

-- ---- rows

abbrev pub no_rows : Rows
no_rows = record { good = true; rows = 0; runs = 0; least = lowest_end; taken = 0 }

-- a row is closed: it is good by itself and against the rows before it
abbrev pub row_fits : Head → Rows → ℤ → ℤ → Runs → Bool
row_fits h s low up o =
    range_good (lent h [] [] []) s.least (record { low = low; up = up; first = 0; runs = 0 }) && (leb 1 o.count && (o.good && leb (s.taken + o.total) h.windows))

unfoldable pub row_next : Head → Rows → ℤ → ℤ → Runs → Rows
row_next h s low up o =
    cond (s.good && row_fits h s low up o) (record { good = true; rows = s.rows + 1; runs = s.runs + o.count; least = up; taken = s.taken + o.total })
    (record { good = false; rows = s.rows; runs = s.runs; least = pos 0; taken = 0 })

-- rows after others
unfoldable pub rows_from : Head → Rows → List (Value row_form) → Rows
rows_from h s [] = s
rows_from h s (r ∷ l) = rows_from h (row_next h s (clamp r.0) (clamp r.1.0) (runs_from h.windows no_runs r.1.1)) l

-- ---- a text

abbrev pub start_tally : Tally
start_tally = record { head = record { window = 0; width = 0; windows = 0 }; rows = no_rows; row = record { low = pos 0; up = pos 0; left = 0; runs = no_runs } }

abbrev pub with_head : Head → Tally → Tally
with_head h t = record { head = h; rows = t.rows; row = t.row }

abbrev pub with_open : Open → Tally → Tally
with_open o t = record { head = t.head; rows = t.rows; row = o }

-- a number
unfoldable pub tell_tally : Field → ℤ → Tally → Tally
tell_tally Field.Window z t = with_head (record { window = held z; width = t.head.width; windows = t.head.windows }) t
tell_tally Field.Width z t = with_head (record { window = t.head.window; width = held z; windows = t.head.windows }) t
tell_tally Field.Windows z t = with_head (record { window = t.head.window; width = t.head.width; windows = held z }) t
tell_tally Field.Low z t = with_open (record { low = clamp z; up = t.row.up; left = t.row.left; runs = t.row.runs }) t
tell_tally Field.Up z t = with_open (record { low = t.row.low; up = clamp z; left = t.row.left; runs = no_runs }) t
tell_tally Field.Left z t = with_open (record { low = t.row.low; up = t.row.up; left = held z; runs = t.row.runs }) t
tell_tally Field.Right z t = with_open (record { low = t.row.low; up = t.row.up; left = t.row.left; runs = run_next t.head.windows t.row.runs t.row.left (held z) }) t

-- a row's end
unfoldable pub shut_tally : Tally → Tally
shut_tally t = record {
  head = t.head;
  rows = row_next t.head t.rows t.row.low t.row.up t.row.runs;
  row = record { low = t.row.low; up = t.row.up; left = t.row.left; runs = no_runs };
}

-- a run
abbrev pub told_run : ℕ → ℕ → Tally → Tally
told_run l r t = tell_tally Field.Right (pos r) (tell_tally Field.Left (pos l) t)

-- after i bytes the counts are at most i
pub record Fits (t : Tally) (i : ℕ) : Type 0 where
  pub sound : Sound t.row.runs
  pub rows : t.rows.rows ≤ i
  pub runs : t.rows.runs + t.row.runs.count ≤ i

-- ---- what a text comes to

-- the head of a text
abbrev pub head_held : Value index_form → Head
head_held v = record { window = held v.0; width = held v.1.0; windows = held v.1.1.0 }

-- head and rows of a text that can be read
abbrev pub scanned_text : Value index_form → Result (Head × Rows) ℕ
scanned_text v = Ok (head_held v, rows_from (head_held v) no_rows v.1.1.1)

abbrev pub scanned : Verdict (Value index_form) → Result (Head × Rows) ℕ
scanned (fine v) = scanned_text v
scanned (unfit p) = Err p

abbrev pub kept_scanned : Verdict Tally → Result (Head × Rows) ℕ
kept_scanned (fine t) = Ok (t.head, t.rows)
kept_scanned (unfit p) = Err p
