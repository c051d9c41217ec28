-- What is told of the program's lines, or of a series line, however the text is cut (`LinesTold`): what the whole text says, or its first bad line.
use Rattle.std.specs.declared.result.Result.{Result}
use Rattle.std.specs.Prelude.{Ok, Err}
use Rattle.std.specs.Prelude.{ℕ, ℤ, Bool, true, false, List, ◌≡◌}
use Rattle.meaning_text.specs.{Form.Form, Form.Value, Read.fine, Read.unfit, Read.read_text, Read.line_of, Texts.series_form, Texts.program_form}
use Rattle.text_lines.specs.{declared.State.State, Follow.Said, Follow.nothing_said, Follow.program_value, Follow.series_value}
use Rattle.text_feed.specs.{declared.Values.Values, declared.Progress.Progress, Keep.numbers_of, Keep.Holds}
use Rattle.try_c_lines.specs.declared.Lines.{Lines}

-- the first bad line, and nothing of its values
abbrev pub bad_line : ℕ → Lines
bad_line n = record { line = n; series = 0; inside = 0; asked = 0; within = 0 }

abbrev pub series_told : Lines → Values
series_told r = record { count = r.series; inside = r.inside }

abbrev pub query_told : Lines → Values
query_told r = record { count = r.asked; inside = r.within }

-- what the text says is told, and kept as far as there is room; or its first bad line is told
pub data TextTold (f : Form) (value : Said → Value f) (text : List ℕ) (series query : List ℤ) (r : Lines) (numbers' series' query' : List ℤ) : Type 0 where
  says : (g : Said) → read_text f text ≡ fine (value g) → r.line ≡ 0 → Holds series query g numbers' (series_told r) (query_told r) series' query' → TextTold f value text series query r numbers' series' query'
  bad : (m : ℕ) → read_text f text ≡ unfit m → r ≡ bad_line (line_of text m) → TextTold f value text series query r numbers' series' query'

abbrev pub WholeTold : Bool → (text : List ℕ) (series query : List ℤ) (r : Lines) (numbers' series' query' : List ℤ) → Type 0
WholeTold true text series query r numbers' series' query' = TextTold program_form program_value text series query r numbers' series' query'
WholeTold false text series query r numbers' series' query' = TextTold series_form series_value text series query r numbers' series' query'

-- of numbers that came otherwise than nothing had been said, nothing is promised
abbrev pub LinesTold : Bool → (text : List ℕ) (numbers series query : List ℤ) (r : Lines) (numbers' series' query' : List ℤ) → Type 0
LinesTold program text numbers series query r numbers' series' query' = numbers ≡ numbers_of nothing_said → WholeTold program text series query r numbers' series' query'

-- ---- as the code goes

-- the text was read to its end where it may end
abbrev pub good_told : Progress → Lines
good_told p = record { line = 0; series = p.series.count; inside = p.series.inside; asked = p.query.count; within = p.query.inside }

abbrev pub end_told : List ℕ → Progress → State → Lines
end_told text p (State.In w k) = bad_line (line_of text p.at)
end_told text p (State.At q n) = bad_line (line_of text p.at)
end_told text p (State.Before t) = bad_line (line_of text p.at)
end_told text p State.Done = good_told p

abbrev pub answer_told : List ℕ → Result Progress ℕ → Lines
answer_told text (Ok p) = end_told text p p.state
answer_told text (Err m) = bad_line (line_of text m)
