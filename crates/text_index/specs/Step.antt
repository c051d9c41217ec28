-- What a byte does to an index text: the words with what stands behind each, the numbers with what may come behind each, and the step of a state.
use Rattle.std.specs.Prelude.{ℕ, ◌+◌, ◌<◌, ltb, eqb, ℤ, length, get_or, Bool, false, cond, List, None, Some}
use Rattle.std.specs.declared.option.Option.{Option}
use Rattle.meaning_text.specs.Bytes.{bytes}
use Rattle.text_numbers.specs.{declared.Numeral.Numeral, Number.num_step, Number.whole, Number.by_option, Number.NumGood}
use Rattle.text_index.specs.{declared.Word.Word, declared.Field.Field, declared.Turn.Turn, declared.State.State, declared.Moved.Moved}

unfoldable pub word : Word → List ℕ
word Word.Window = bytes "(index (window "
word Word.Width = bytes ") (width "
word Word.Windows = bytes ") (windows "
word Word.Head = bytes ")\n"
word Word.Row = bytes "(row "
word Word.Up = bytes " "
word Word.Run = bytes " ("
word Word.Right = bytes " "
word Word.RunEnd = bytes ")"
word Word.RowEnd = bytes ")\n"
word Word.End = bytes ")\n"

-- the state behind a word
unfoldable pub behind : Word → State
behind Word.Window = State.At Field.Window Numeral.Start
behind Word.Width = State.At Field.Width Numeral.Start
behind Word.Windows = State.At Field.Windows Numeral.Start
behind Word.Head = State.Before Turn.Rows
behind Word.Row = State.At Field.Low Numeral.Start
behind Word.Up = State.At Field.Up Numeral.Start
behind Word.Run = State.At Field.Left Numeral.Start
behind Word.Right = State.At Field.Right Numeral.Start
behind Word.RunEnd = State.Before Turn.Runs
behind Word.RowEnd = State.Before Turn.Rows
behind Word.End = State.Done

-- what may come behind a number
unfoldable pub turn_after : Field → Turn
turn_after Field.Window = Turn.One Word.Width
turn_after Field.Width = Turn.One Word.Windows
turn_after Field.Windows = Turn.One Word.Head
turn_after Field.Low = Turn.One Word.Up
turn_after Field.Up = Turn.Runs
turn_after Field.Left = Turn.One Word.Right
turn_after Field.Right = Turn.One Word.RunEnd

-- the only word that could begin with the byte
unfoldable pub pick : Turn → ℕ → Word
pick (Turn.One w) b = w
pick Turn.Rows b = cond (eqb b 40) Word.Row Word.End
pick Turn.Runs b = cond (eqb b 32) Word.Run Word.RowEnd

-- the byte is byte k of the word, and where that leads
unfoldable pub reach : Word → ℕ → ℕ → Option State
reach w k b = cond (eqb b (get_or (word w) k 0)) (Some (cond (ltb (k + 1) (length (word w))) (State.In w (k + 1)) (behind w))) None

-- byte k of the word ends a row
unfoldable pub closes : Word → ℕ → Bool
closes Word.Window k = false
closes Word.Width k = false
closes Word.Windows k = false
closes Word.Head k = false
closes Word.Row k = false
closes Word.Up k = false
closes Word.Run k = false
closes Word.Right k = false
closes Word.RunEnd k = false
closes Word.RowEnd k = eqb k 1
closes Word.End k = false

-- ---- the step

abbrev pub led : Option State → (State → Moved) → Moved
led (Some s) f = f s
led None f = Moved.Refuse

unfoldable pub word_step : Word → ℕ → ℕ → Moved
word_step w k b = led (reach w k b) (λ s. cond (closes w k) (Moved.Closed s) (Moved.To s))

unfoldable pub turn_step : Turn → ℕ → Moved
turn_step t b = led (reach (pick t b) 0 b) (λ s. Moved.To s)

-- behind a number that has ended
unfoldable pub end_step : Field → ℤ → ℕ → Moved
end_step p z b = led (reach (pick (turn_after p) b) 0 b) (λ s. Moved.Value s p z)

unfoldable pub number_step : Field → Numeral → ℕ → Moved
number_step p n b = by_option (num_step n b) (λ m. Moved.To (State.At p m)) (by_option (whole n) (λ z. end_step p z b) Moved.Refuse)

unfoldable pub index_step : State → ℕ → Moved
index_step (State.In w k) b = word_step w k b
index_step (State.At p n) b = number_step p n b
index_step (State.Before t) b = turn_step t b
index_step State.Done b = Moved.Refuse

-- a place in a word is inside it
abbrev pub GoodState : State → Type 0
GoodState (State.In w k) = k < length (word w)
GoodState (State.At p n) = NumGood n
GoodState (State.Before t) = Unit {0}
GoodState State.Done = Unit {0}
