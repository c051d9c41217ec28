-- What a byte does to a series line or to the program's lines: the words with what stands behind each, the numbers with what may come behind each, and the step of a state.
use Rattle.std.specs.Prelude.{ℕ, ◌+◌, ◌<◌, ltb, eqb, ℤ, length, get_or, cond, List, None, Some}
use Rattle.std.specs.declared.option.Option.{Option}
use Rattle.meaning_text.specs.Bytes.{bytes}
use Rattle.text_numbers.specs.{declared.Numeral.Numeral, Number.num_step, Number.whole, Number.by_option, Number.NumGood}
use Rattle.text_lines.specs.{declared.Word.Word, declared.Field.Field, declared.Turn.Turn, declared.State.State, declared.Moved.Moved}

unfoldable pub word : Word → List ℕ
word Word.Window = bytes "(window "
word Word.Width = bytes ")\n(width "
word Word.Merge = bytes ")\n(merge "
word Word.Series = bytes ")\n(series"
word Word.Find = bytes ")\n(find "
word Word.Raw = bytes "raw"
word Word.Normal = bytes "normal"
word Word.Query = bytes " (query"
word Word.End = bytes "))\n"
word Word.Line = bytes "(series"
word Word.LineEnd = bytes ")\n"
word (Word.Space p) = bytes " "

-- the state behind a word
unfoldable pub behind : Word → State
behind Word.Window = State.At Field.Window Numeral.Start
behind Word.Width = State.At Field.Width Numeral.Start
behind Word.Merge = State.At Field.Merge Numeral.Start
behind Word.Series = State.Before Turn.Series
behind Word.Find = State.Before Turn.Kind
behind Word.Raw = State.Before (Turn.One (Word.Space Field.Band))
behind Word.Normal = State.Before (Turn.One (Word.Space Field.Band))
behind Word.Query = State.Before Turn.Query
behind Word.End = State.Done
behind Word.Line = State.Before Turn.Line
behind Word.LineEnd = State.Done
behind (Word.Space p) = State.At p Numeral.Start

-- what may come behind a number
unfoldable pub turn_after : Field → Turn
turn_after Field.Window = Turn.One Word.Width
turn_after Field.Width = Turn.One Word.Merge
turn_after Field.Merge = Turn.One Word.Series
turn_after Field.Item = Turn.Series
turn_after Field.Band = Turn.One (Word.Space Field.Threshold)
turn_after Field.Threshold = Turn.One (Word.Space Field.Scale)
turn_after Field.Scale = Turn.One (Word.Space Field.Shift)
turn_after Field.Shift = Turn.One Word.Query
turn_after Field.Asked = Turn.Query
turn_after Field.Entry = Turn.Line

-- the only word that could begin with the byte
unfoldable pub pick : Turn → ℕ → Word
pick (Turn.One w) b = w
pick Turn.Series b = cond (eqb b 32) (Word.Space Field.Item) Word.Find
pick Turn.Kind b = cond (eqb b 114) Word.Raw Word.Normal
pick Turn.Query b = cond (eqb b 32) (Word.Space Field.Asked) Word.End
pick Turn.Line b = cond (eqb b 32) (Word.Space Field.Entry) Word.LineEnd

-- the byte is byte k of the word, and where that leads
unfoldable pub reach : Word → ℕ → ℕ → Option State
reach w k b = cond (eqb b (get_or (word w) k 0)) (Some (cond (ltb (k + 1) (length (word w))) (State.In w (k + 1)) (behind w))) None

-- ---- the step

abbrev pub led : Option State → (State → Moved) → Moved
led (Some s) f = f s
led None f = Moved.Refuse

unfoldable pub word_step : Word → ℕ → ℕ → Moved
word_step w k b = led (reach w k b) (λ s. cond (ltb (k + 1) (length (word w))) (Moved.To s) (Moved.Ended s w))

unfoldable pub turn_step : Turn → ℕ → Moved
turn_step t b = led (reach (pick t b) 0 b) (λ s. Moved.To s)

-- behind a number that has ended
unfoldable pub end_step : Field → ℤ → ℕ → Moved
end_step p z b = led (reach (pick (turn_after p) b) 0 b) (λ s. Moved.Value s p z)

unfoldable pub number_step : Field → Numeral → ℕ → Moved
number_step p n b = by_option (num_step n b) (λ m. Moved.To (State.At p m)) (by_option (whole n) (λ z. end_step p z b) Moved.Refuse)

unfoldable pub line_step : State → ℕ → Moved
line_step (State.In w k) b = word_step w k b
line_step (State.At p n) b = number_step p n b
line_step (State.Before t) b = turn_step t b
line_step State.Done b = Moved.Refuse

-- a place in a word is inside it
abbrev pub GoodState : State → Type 0
GoodState (State.In w k) = k < length (word w)
GoodState (State.At p n) = NumGood n
GoodState (State.Before t) = Unit {0}
GoodState State.Done = Unit {0}
