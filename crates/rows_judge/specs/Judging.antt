-- The state of judging: what is known after some good rows, and how one row moves it. After a bad row there is none.
use Rattle.std.specs.Prelude.{ℕ, ◌+◌, leb, eqb, ℤ, Bool, cond, ◌&&◌, List, None, Some}
use Rattle.std.specs.declared.option.Option.{Option}
use Rattle.meaning_curves.specs.Limits.{lowest_end}
use Rattle.meaning_rows.specs.{declared.Row.Row, Index.Index, Index.Entry, Index.runs_of, Judge.head_good, Judge.runs_good, Judge.run_lengths, Judge.range_good, Judge.row_good}
use Rattle.rows_judge.specs.declared.RowsJudged.{RowsJudged}

-- before the first row
abbrev pub begun : RowsJudged
begun = record { least = lowest_end; first = 0; taken = 0 }

abbrev pub start : Index → Option RowsJudged
start x = cond (head_good x) (Some begun) None

-- after a good row whose run lengths total `total`
abbrev pub moved : RowsJudged → Row → ℕ → RowsJudged
moved s r total = record { least = r.up; first = r.first + r.runs; taken = s.taken + total }

-- a row has a part of its own in a run buffer of `size` entries
abbrev pub room : ℕ → ℕ → Row → Bool
room size first r = leb 1 r.runs && (eqb r.first first && leb (r.first + r.runs) size)

-- everything of a row but its runs
abbrev pub fits : Index → RowsJudged → Row → ℕ → Bool
fits x s r size = range_good x s.least r && room size s.first r

-- run entries from `least` on, with the lengths before them; none where a run is not good
unfoldable pub scan : ℤ → ℤ → ℕ → List Entry → Option ℕ
scan windows least total l = cond (runs_good windows least l) (Some (total + run_lengths l)) None

-- after a row that fits, by its run lengths
abbrev pub after : ℕ → RowsJudged → Row → Option ℕ → Option RowsJudged
after windows s r None = None
after windows s r (Some total) = cond (leb (s.taken + total) windows) (Some (moved s r total)) None

-- after one row more
unfoldable pub next : Index → RowsJudged → Row → Option RowsJudged
next x s r = cond (row_good x s.least s.first s.taken r) (Some (moved s r (run_lengths (runs_of x r)))) None
