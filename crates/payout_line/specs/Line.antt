-- What a series line comes to: the place of its first bad byte, or how many values it has; and the values in a buffer, as far as it has room.
use Rattle.std.specs.Prelude.{ℕ, ℤ, length, List, Result, Ok, Err, ◌≡◌}
use Rattle.meaning_text.specs.{Read.Verdict, Read.fine, Read.unfit, Read.read_text, Texts.series_form}
use Rattle.text_lines.specs.{declared.Word.Word, declared.State.State}
use Rattle.text_feed.specs.{declared.Progress.Progress, Keep.stored}

abbrev pub start_line : Progress
start_line = record { state = State.In Word.Line 0; at = 0; series = record { count = 0; inside = 0 }; query = record { count = 0; inside = 0 } }

abbrev pub line_end : State → ℕ → ℕ → Result ℕ ℕ
line_end (State.In w k) at n = Err at
line_end (State.At p m) at n = Err at
line_end (State.Before t) at n = Err at
line_end State.Done at n = Ok n

abbrev pub line_read : Verdict (List ℤ) → Result ℕ ℕ
line_read (fine v) = Ok (length v)
line_read (unfit p) = Err p

-- the values of a line that can be read, over what the buffer held
unfoldable pub Stored : List ℕ → List ℤ → List ℤ → Type 0
Stored t before after = (v : List ℤ) → read_text series_form t ≡ fine v → after ≡ stored before v
