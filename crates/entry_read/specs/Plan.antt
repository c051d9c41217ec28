-- What is planned before anything is stored, by what the text comes to, and what stands in a column of the run buffer afterwards.
use Rattle.std.specs.Prelude.{ℕ, min, length, replicate, List, ◌∷◌, map, ◌≡◌, None, Some, Ok, Err}
use Rattle.std.specs.declared.{option.Option.Option, result.Result.Result}
use Rattle.std.proofs.lemmas.List.Edits.{sets}
use Rattle.meaning_rows.specs.{declared.Head.Head, Index.Entry}
use Rattle.meaning_text.specs.{Read.read_text, Read.line_of, Texts.index_form}
use Rattle.meaning_entries.specs.{Answers.Built, Answers.refusal, Answers.held, Refusal.Condition, Refusal.first_refusal, Refusal.room_lines, Load.text_index}
use Rattle.numbers.specs.Narrow.{held as held_number}
use Rattle.refusals.specs.Refusal.{judged_line}
use Rattle.text_judge.specs.{declared.Rows.Rows, Judged.judged_rows, Tally.scanned}

-- what refuses a text that can be read, of which judging said this, where there is room for so many rows and runs
unfoldable pub rows_table : Head → Rows → ℕ → ℕ → List Condition
rows_table h c rows runs = judged_line (judged_rows h c) ∷ room_lines rows c.rows runs c.runs

-- the plan for it
abbrev pub plan_by : Option (ℕ × ℕ) → Head → Rows → Built
plan_by None h c = Ok (held h c.rows c.runs)
plan_by (Some r) h c = Err (refusal r)

unfoldable pub fit_plan : Head → Rows → ℕ → ℕ → Built
fit_plan h c rows runs = plan_by (first_refusal (rows_table h c rows runs)) h c

unfoldable pub plan_scanned : List ℕ → ℕ → ℕ → Result (Head × Rows) ℕ → Built
plan_scanned t rows runs (Err p) = Err (refusal (12, line_of t p))
plan_scanned t rows runs (Ok q) = fit_plan q.0 q.1 rows runs

abbrev pub plan_for : List ℕ → ℕ → ℕ → Built
plan_for t rows runs = plan_scanned t rows runs (scanned (read_text index_form t))

-- the run entries of a text, and their columns as the code has them
abbrev pub text_runs : List ℕ → List Entry
text_runs t = (text_index t).runs

abbrev pub held_lefts : List Entry → List ℕ
held_lefts l = map (λ e. held_number e.0) l

abbrev pub held_rights : List Entry → List ℕ
held_rights l = map (λ e. held_number e.1) l

-- a column afterwards: the new entries and 0 in the others, or nothing altered
unfoldable pub column_after : Built → List ℕ → List ℕ → List ℕ
column_after (Ok m) new old = sets (replicate (length old) 0) 0 new
column_after (Err r) new old = old

-- what is planned for a text, and the run buffer afterwards
pub record Loads (t : List ℕ) (rows : ℕ) (left right : List ℕ) (p : Built) (left' right' : List ℕ) : Type 0 where
  pub planned : p ≡ plan_for t rows (min (length left) (length right))
  pub lefts : left' ≡ column_after p (held_lefts (text_runs t)) left
  pub rights : right' ≡ column_after p (held_rights (text_runs t)) right
