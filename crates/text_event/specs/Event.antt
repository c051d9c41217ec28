-- What comes next in an index text, by the steps of its automaton: bytes that say nothing (`Quiet`), then one that ends a number or a row, that is refused, or the text's end. A run is two numbers, a row's beginning two and a run. What every such step keeps, an event keeps.
use Rattle.std.specs.Prelude.{ℕ, ◌+◌, ◌/◌, ◌%◌, ◌<◌, ◌≤◌, ◌^◌, ℤ, pos, neg_ℤ, length, get_or, take, drop, List, None, Some, ◌≡◌}
use Rattle.std.specs.declared.option.Option.{Option}
use Rattle.meaning_text.specs.Bytes.{bytes}
use Rattle.text_numbers.specs.declared.Numeral.{Numeral}
use Rattle.text_index.specs.{declared.Word.Word, declared.Field.Field, declared.Turn.Turn, declared.State.State, declared.Moved.Moved, Step.index_step}
use Rattle.text_event.specs.declared.Event.{Event}

-- from a state at a place to another over bytes that say nothing
pub data Quiet (text : List ℕ) (s : State) (i : ℕ) : State → ℕ → Type 0 where
  still : Quiet text s i s i
  more : {n m : State} {j : ℕ} → Quiet text s i n j → j < length text → index_step n (get_or text j 0) ≡ Moved.To m → Quiet text s i m (j + 1)

-- a number ends before place j, and the text stands at n there
pub record ValueAt (text : List ℕ) (s : State) (i : ℕ) (n : State) (p : Field) (z : ℤ) (j : ℕ) : Type 0 where
  pub last : State
  pub place : ℕ
  pub quiet : Quiet text s i last place
  pub inside : place < length text
  pub ends : index_step last (get_or text place 0) ≡ Moved.Value n p z
  pub next : j ≡ place + 1

-- a row ends before place j
pub record ClosedAt (text : List ℕ) (s : State) (i : ℕ) (n : State) (j : ℕ) : Type 0 where
  pub last : State
  pub place : ℕ
  pub quiet : Quiet text s i last place
  pub inside : place < length text
  pub ends : index_step last (get_or text place 0) ≡ Moved.Closed n
  pub next : j ≡ place + 1

-- between the two numbers of a run
abbrev pub in_run : State
in_run = State.At Field.Right Numeral.Start

-- where a run may stand
abbrev pub at_runs : State
at_runs = State.Before Turn.Runs

-- behind the blank in front of a row's first run
abbrev pub at_first : State
at_first = State.In Word.Run 1

-- where a row may begin
abbrev pub at_rows : State
at_rows = State.Before Turn.Rows

-- between the two ends of a row's range
abbrev pub in_range : State
in_range = State.At Field.Up Numeral.Start

-- a run ends before place j
pub record RunAt (text : List ℕ) (s : State) (i : ℕ) (l r : ℤ) (j : ℕ) : Type 0 where
  pub middle : ℕ
  pub left : ValueAt text s i in_run Field.Left l middle
  pub right : ValueAt text in_run middle at_runs Field.Right r j

-- a row's range ends before place j, and a run comes
pub record RowAt (text : List ℕ) (i : ℕ) (low up : ℤ) (j : ℕ) : Type 0 where
  pub middle : ℕ
  pub lower : ValueAt text at_rows i in_range Field.Low low middle
  pub upper : ValueAt text in_range middle at_first Field.Up up j

-- a row's range and its first run
pub record OpenAt (text : List ℕ) (i : ℕ) (low up l r : ℤ) (j : ℕ) : Type 0 where
  pub behind : ℕ
  pub row : RowAt text i low up behind
  pub run : RunAt text at_first behind l r j

-- runs one after the other, from a place to another, and what they tell
pub data RunsFrom {T : Type 0} (tell : Field → ℤ → T → T) (text : List ℕ) (t : T) (i : ℕ) : T → ℕ → Type 0 where
  none : RunsFrom tell text t i t i
  one : {u : T} {j l r k : ℕ} → RunsFrom tell text t i u j → RunAt text at_runs j (pos l) (pos r) k → RunsFrom tell text t i (tell Field.Right (pos r) (tell Field.Left (pos l) u)) k

abbrev pub EventAt : List ℕ → State → ℕ → Event → Type 0
EventAt text s i (Event.Row low up l r j) = (s ≡ at_rows) × OpenAt text i low up (pos l) (pos r) j
EventAt text s i (Event.Run l r j) = (s ≡ at_runs) × RunAt text at_runs i (pos l) (pos r) j
EventAt text s i (Event.Value n p z j) = ValueAt text s i n p z j
EventAt text s i (Event.Closed n j) = ClosedAt text s i n j
EventAt text s i (Event.Refuse n j) = Quiet text s i n j × (j < length text) × (index_step n (get_or text j 0) ≡ Moved.Refuse)
EventAt text s i (Event.End n j) = Quiet text s i n j × (length text ≤ j)

-- ---- fixed words

-- the bytes from place i on begin with the word
pub record WordAt (text : List ℕ) (i : ℕ) (word : List ℕ) : Type 0 where
  pub begins : take (length word) (drop i text) ≡ word

-- the bytes that end a row
abbrev pub Ends : List ℕ → ℕ → Type 0
Ends text i = WordAt text i (bytes ")\n")

-- `(row ` and twenty bytes
pub record Opens (text : List ℕ) (i : ℕ) : Type 0 where
  pub word : WordAt text i (bytes "(row ")
  pub room : i + 25 ≤ length text

-- ---- the parts of a run, and of a row's beginning, told as one number

-- digits behind a number that has been read so far
pub record DigitsAt (text : List ℕ) (i m q : ℕ) : Type 0 where
  pub small : q / 16 < 10 ^ 8
  pub short : q % 16 ≤ 7
  pub plus : (p : Field) → Quiet text (State.At p (Numeral.Plus m)) i (State.At p (Numeral.Plus (q / 16))) (i + q % 16)
  pub less : (p : Field) → Quiet text (State.At p (Numeral.Less m)) i (State.At p (Numeral.Less (q / 16))) (i + q % 16)

-- a number of at most eight digits
pub record NumberAt (text : List ℕ) (i q : ℕ) : Type 0 where
  pub small : q / 16 < 10 ^ 8
  pub short : q % 16 ≤ 8
  pub plus : (p : Field) → Quiet text (State.At p Numeral.Start) i (State.At p (Numeral.Plus (q / 16))) (i + q % 16)
  pub less : (p : Field) → Quiet text (State.At p Numeral.Sign) i (State.At p (Numeral.Less (q / 16))) (i + q % 16)

-- the ends of a run and how many bytes it has
abbrev pub left_of : ℕ → ℕ
left_of q = q / 4294967296

abbrev pub right_of : ℕ → ℕ
right_of q = q / 32 % 134217728

abbrev pub length_of : ℕ → ℕ
length_of q = q % 32

-- a run from a state on
pub record PlainAt (text : List ℕ) (s : State) (i q : ℕ) : Type 0 where
  pub small : q < 2 ^ 60
  pub short : length_of q ≤ 20
  pub run : RunAt text s i (pos (left_of q)) (pos (right_of q)) (i + length_of q)

-- a run behind its bracket
pub record BodyAt (text : List ℕ) (i q : ℕ) : Type 0 where
  pub plain : PlainAt text (State.At Field.Left Numeral.Start) i q
  pub least : length_of q ≤ 18
  pub tiny : q < 2 ^ 59

-- the byte of a blank
abbrev pub blank : ℕ
blank = get_or (bytes " ") 0 0

-- where a blank behind a number leads
pub record Blank (p : Field) (n : State) : Type 0 where
  pub plus : (k : ℕ) → index_step (State.At p (Numeral.Plus k)) blank ≡ Moved.Value n p (pos k)
  pub less : (k : ℕ) → index_step (State.At p (Numeral.Less k)) blank ≡ Moved.Value n p (neg_ℤ (pos k))

-- a number with a blank behind it
pub record BlankAt (text : List ℕ) (i q : ℕ) : Type 0 where
  pub number : NumberAt text i q
  pub blank : WordAt text (i + q % 16) (bytes " ")

-- the same with or without a sign
abbrev pub SignedAt : List ℕ → ℕ → Option (ℤ × ℕ) → Type 0
SignedAt text i (Some (z, j)) = (j ≤ i + 10) × ((p : Field) (n : State) → Blank p n → ValueAt text (State.At p Numeral.Start) i n p z j)
SignedAt text i None = Unit {0}

abbrev pub RangeAt : List ℕ → ℕ → Option (ℤ × ℤ × ℕ) → Type 0
RangeAt text i (Some (low, up, j)) = RowAt text i low up j
RangeAt text i None = Unit {0}
