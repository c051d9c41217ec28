-- An index text read on to the end of its next row, as often as rows are wanted.
use Rattle.std.specs.Prelude.{ℕ, zero, suc, ◌≤◌, min, set, drop, List, [], ◌∷◌}
use Rattle.meaning_rows.specs.{declared.Row.Row, Index.zero_row}
use Rattle.text_index.specs.{declared.Word.Word, declared.State.State, declared.Moved.Moved, Step.index_step, Step.GoodState}
use Rattle.text_judge.specs.{declared.Tally.Tally, Tally.start_tally, Tally.tell_tally, Tally.shut_tally, Tally.Fits}
use Rattle.text_rows.specs.declared.Line.{Line}

-- the record of the row that is open: its runs begin where those of the rows before end
unfoldable pub row_made : Tally → Row
row_made t = record { low = t.row.low; up = t.row.up; first = min t.rows.runs 4294967295; runs = min t.row.runs.count 4294967295 }

-- no row was left
abbrev pub line_end : State → ℕ → Tally → Line
line_end s i t = record { state = s; at = i; tally = t; row = zero_row }

abbrev pub no_line : Line
no_line = line_end (State.In Word.Window 0) 0 start_tally

-- bytes from place i on, up to the end of a row
unfoldable pub line_from : State → Tally → ℕ → List ℕ → Line
line_from s t i [] = line_end s i t
line_from s t i (b ∷ l) = elim (index_step s b) [
  | Moved.To n ↦ line_from n t (suc i) l
  | Moved.Value n p z ↦ line_from n (tell_tally p z t) (suc i) l
  | Moved.Closed n ↦ record { state = n; at = suc i; tally = shut_tally t; row = row_made t }
  | Moved.Refuse ↦ line_end s i t
]

-- a text from place i on, up to the end of a row
abbrev pub row_from : List ℕ → ℕ → State → Tally → Line
row_from text i s t = line_from s t i (drop i text)

-- a line read on from where it ended
unfoldable pub next_line : List ℕ → Line → Line
next_line text p = row_from text p.at p.state p.tally

-- after k rows
unfoldable pub line_at : List ℕ → ℕ → Line
line_at text zero = no_line
line_at text (suc k) = next_line text (line_at text k)

-- the first n records are the rows of the text, one after the other
unfoldable pub stored : List ℕ → ℕ → List Row → List Row
stored text zero rows = rows
stored text (suc n) rows = set (stored text n rows) n (line_at text (suc n)).row

-- a line of a text of n bytes can be read on
pub record Ready (n : ℕ) (p : Line) : Type 0 where
  pub good : GoodState p.state
  pub fits : Fits p.tally p.at
  pub inside : p.at ≤ n
