-- The automaton of the index text follows `index_form`: each state with what has been said so far has a reader for the rest of the text, and a byte takes it to the next. So the bytes of a text come to what `read_text` says.
use Rattle.meaning_numbers.proofs.Prelude.{ℕ, suc, ◌+◌, ◌<◌, ltb-true, ltb-false, eqb, ℤ, pos, length, drop, Bool, true, false, cond, List, [], ◌∷◌, ◌++◌, append_assoc, append-nil, Option, None, Some, ◌≡◌, refl, ◌∙◌, arith}
use Rattle.meaning_text.specs.{Bytes.bytes, Number.got, Number.bad, Form.Value, Form.many, Form.read, Read.read_text, Texts.index_form, Texts.row_form, Texts.run_form}
use Rattle.meaning_text.proofs.Automaton.{on-option, going, feed, bad-here, over, at_rest, Follows, judged, form-comes}
use Rattle.meaning_text.proofs.Onward.{Rest, word_then, read_then, read-alone, lead-then, trail-then, both-then, many-then, many-ends, word_over, word_next, word-off, word-short}
use Rattle.meaning_text.proofs.{Open.open_text, Form.filled, Form.clear_word, Form.clear, Form.follows, Form.firm, Form.opens, Form.decided, Reading.on-flag, Reading.begun}
use Rattle.text_numbers.specs.{declared.Numeral.Numeral, Number.num_step, Number.whole}
use Rattle.text_numbers.proofs.{Number.good-step, Onto.Onto, Onto.follows_by, Onward.number_then, Onward.number_more, Onward.number-stop, Onward.number-then}
use Rattle.text_index.specs.Step.{word, behind, turn_after, pick, reach, closes, led, word_step, turn_step, end_step, number_step, index_step, GoodState}
use Rattle.text_index.specs.{declared.Word.Word, declared.Field.Field, declared.Turn.Turn, declared.State.State, declared.Moved.Moved}
use Rattle.text_index.proofs.Step.{word-long}

-- ---- what has been said

-- the head, the rows that are closed, and the row and the run that are open
pub record Said : Type 0 where
  pub window : ℤ
  pub width : ℤ
  pub windows : ℤ
  pub rows : List (Value row_form)
  pub low : ℤ
  pub up : ℤ
  pub runs : List (Value run_form)
  pub left : ℤ

abbrev pub nothing_said : Said
nothing_said = record { window = pos 0; width = pos 0; windows = pos 0; rows = []; low = pos 0; up = pos 0; runs = []; left = pos 0 }

-- a number
abbrev pub told : Field → ℤ → Said → Said
told Field.Window z g = record { window = z; width = g.width; windows = g.windows; rows = g.rows; low = g.low; up = g.up; runs = g.runs; left = g.left }
told Field.Width z g = record { window = g.window; width = z; windows = g.windows; rows = g.rows; low = g.low; up = g.up; runs = g.runs; left = g.left }
told Field.Windows z g = record { window = g.window; width = g.width; windows = z; rows = g.rows; low = g.low; up = g.up; runs = g.runs; left = g.left }
told Field.Low z g = record { window = g.window; width = g.width; windows = g.windows; rows = g.rows; low = z; up = g.up; runs = g.runs; left = g.left }
told Field.Up z g = record { window = g.window; width = g.width; windows = g.windows; rows = g.rows; low = g.low; up = z; runs = []; left = g.left }
told Field.Left z g = record { window = g.window; width = g.width; windows = g.windows; rows = g.rows; low = g.low; up = g.up; runs = g.runs; left = z }
told Field.Right z g = record { window = g.window; width = g.width; windows = g.windows; rows = g.rows; low = g.low; up = g.up; runs = g.runs ++ ((g.left, z) ∷ []); left = g.left }

-- a row's end
abbrev pub closed : Said → Said
closed g = record { window = g.window; width = g.width; windows = g.windows; rows = g.rows ++ ((g.low, (g.up, g.runs)) ∷ []); low = g.low; up = g.up; runs = []; left = g.left }

abbrev pub value : Said → Value index_form
value g = (g.window, (g.width, (g.windows, g.rows)))

-- ---- the automaton

pub record Reading : Type 0 where
  pub state : State
  pub said : Said

abbrev pub at : State → Said → Reading
at s g = record { state = s; said = g }

abbrev pub moved : Moved → Said → Option Reading
moved (Moved.To s) g = Some (at s g)
moved (Moved.Value s p z) g = Some (at s (told p z g))
moved (Moved.Closed s) g = Some (at s (closed g))
moved Moved.Refuse g = None

unfoldable pub step : Reading → ℕ → Option Reading
step x b = moved (index_step x.state b) x.said

abbrev pub accept_state : State → Said → Option (Value index_form)
accept_state (State.In w k) g = None
accept_state (State.At p n) g = None
accept_state (State.Before t) g = None
accept_state State.Done g = Some (value g)

unfoldable pub accept : Reading → Option (Value index_form)
accept x = accept_state x.state x.said

abbrev pub start : Reading
start = at (State.In Word.Window 0) nothing_said

-- ---- the rest of the text

abbrev V' : Type 0
V' = Value index_form

-- rows, and the end
unfoldable rest_rows : Said → Rest V'
rest_rows g = read_then (many row_form) (λ l. word_then (word Word.End) (λ t. got (g.window, (g.width, (g.windows, g.rows ++ l))) t))

-- the row with these runs more is closed
abbrev closed_with : Said → List (Value run_form) → Said
closed_with g l = closed (record { window = g.window; width = g.width; windows = g.windows; rows = g.rows; low = g.low; up = g.up; runs = g.runs ++ l; left = g.left })

-- runs, and the row's end
unfoldable rest_runs : Said → Rest V'
rest_runs g = read_then (many run_form) (λ l. word_then (word Word.RowEnd) (rest_rows (closed_with g l)))

after_windows : Said → Rest V'
after_windows g = word_then (word Word.Head) (rest_rows g)

after_width : Said → Rest V'
after_width g = word_then (word Word.Windows) (number_then Numeral.Start (λ z. after_windows (told Field.Windows z g)))

after_window : Said → Rest V'
after_window g = word_then (word Word.Width) (number_then Numeral.Start (λ z. after_width (told Field.Width z g)))

after_low : Said → Rest V'
after_low g = word_then (word Word.Up) (number_then Numeral.Start (λ z. rest_runs (told Field.Up z g)))

after_right : Said → Rest V'
after_right g = word_then (word Word.RunEnd) (rest_runs g)

after_left : Said → Rest V'
after_left g = word_then (word Word.Right) (number_then Numeral.Start (λ z. after_right (told Field.Right z g)))

-- behind a number
unfoldable after : Field → Said → Rest V'
after Field.Window = after_window
after Field.Width = after_width
after Field.Windows = after_windows
after Field.Low = after_low
after Field.Up = rest_runs
after Field.Left = after_left
after Field.Right = after_right

abbrev from_number : Field → Numeral → Said → Rest V'
from_number p n g = number_then n (λ z. after p (told p z g))

-- behind a word
unfoldable behind_then : Word → Said → Rest V'
behind_then Word.Window g = from_number Field.Window Numeral.Start g
behind_then Word.Width g = from_number Field.Width Numeral.Start g
behind_then Word.Windows g = from_number Field.Windows Numeral.Start g
behind_then Word.Head g = rest_rows g
behind_then Word.Row g = from_number Field.Low Numeral.Start g
behind_then Word.Up g = from_number Field.Up Numeral.Start g
behind_then Word.Run g = from_number Field.Left Numeral.Start g
behind_then Word.Right g = from_number Field.Right Numeral.Start g
behind_then Word.RunEnd g = rest_runs g
behind_then Word.RowEnd g = rest_rows (closed g)
behind_then Word.End g = λ t. got (value g) t

abbrev rest_turn : Turn → Said → Rest V'
rest_turn (Turn.One w) g = word_then (word w) (behind_then w g)
rest_turn Turn.Rows g = rest_rows g
rest_turn Turn.Runs g = rest_runs g

abbrev rest_state : State → Said → Rest V'
rest_state (State.In w k) g = word_then (drop k (word w)) (behind_then w g)
rest_state (State.At p n) g = from_number p n g
rest_state (State.Before t) g = rest_turn t g
rest_state State.Done g = λ t. got (value g) t

unfoldable rest : Reading → Rest V'
rest x = rest_state x.state x.said

-- ---- words

behind-then : (w : Word) (k : ℕ) (g : Said) → suc k ≡ length (word w) → GoodState (behind w) × (behind_then w g ≡ rest_state (behind w) (cond (closes w k) (closed g) g))
unfolding word bytes behind behind_then closes
behind-then Word.Window k g h = (tt, refl)
behind-then Word.Width k g h = (tt, refl)
behind-then Word.Windows k g h = (tt, refl)
behind-then Word.Head k g h = (tt, refl)
behind-then Word.Row k g h = (tt, refl)
behind-then Word.Up k g h = (tt, refl)
behind-then Word.Run k g h = (tt, refl)
behind-then Word.Right k g h = (tt, refl)
behind-then Word.RunEnd k g h = (tt, refl)
behind-then Word.RowEnd k g h = let e : k ≡ 1 = omega arith in (tt, rw e)
behind-then Word.End k g h = (tt, refl)

-- a word whose bytes end no row, or a row's end
data Closing : Word → Type 0 where
  row-end : Closing Word.RowEnd
  other : {w : Word} → ((k : ℕ) → closes w k ≡ false) → Closing w

closing : (w : Word) → Closing w
unfolding closes
closing Word.Window = other (λ k. refl)
closing Word.Width = other (λ k. refl)
closing Word.Windows = other (λ k. refl)
closing Word.Head = other (λ k. refl)
closing Word.Row = other (λ k. refl)
closing Word.Up = other (λ k. refl)
closing Word.Run = other (λ k. refl)
closing Word.Right = other (λ k. refl)
closing Word.RunEnd = other (λ k. refl)
closing Word.RowEnd = row-end
closing Word.End = other (λ k. refl)

pub inside : (w : Word) (k : ℕ) → suc k < length (word w) → closes w k ≡ false
unfolding word bytes closes
inside w k h = by (closing w) h
  where
    by : {w : Word} → Closing w → suc k < length (word w) → closes w k ≡ false
    by row-end h = let e : k ≡ 0 = omega arith in rw e
    by (other f) h = f k

pub not_first : (w : Word) → closes w 0 ≡ false
unfolding closes
not_first w = by (closing w)
  where
    by : {w : Word} → Closing w → closes w 0 ≡ false
    by row-end = refl
    by (other f) = f 0

-- where a byte leads
abbrev pub turned : Option State → Said → Option Reading
turned (Some s) g = Some (at s g)
turned None g = None

pub led-moved : (x : Option State) (f : State → Moved) (g h : Said) → ((s : State) → moved (f s) g ≡ Some (at s h)) → moved (led x f) g ≡ turned x h
led-moved (Some s) f g h e = e s
led-moved None f g h e = refl

pub word_moved : (x : Option State) (c : Bool) (g : Said) → moved (led x (λ s. cond c (Moved.Closed s) (Moved.To s))) g ≡ turned x (cond c (closed g) g)
word_moved x true g = led-moved x _ g _ (λ s. refl)
word_moved x false g = led-moved x _ g g (λ s. refl)

abbrev pub Good : Reading → Type 0
Good x = GoodState x.state

-- a byte of a word
word-onto : (w : Word) (k b : ℕ) → k < length (word w) → (g : Said) (t : List ℕ) → Onto Good rest (turned (reach w k b) (cond (closes w k) (closed g) g)) b t (word_then (drop k (word w)) (behind_then w g) (b ∷ t))
unfolding reach rest
word-onto w k b h g t =
    on-flag _
    (λ e. on-flag _
    (λ u. let a : suc k ≡ k + 1 = omega arith in
    rw (e, u, inside w k (omega (arith, ltb-true (k + 1) (length (word w)) u))) (ltb-true (k + 1) _ u, word_next (word w) _ k h b t e ∙ rw a))
    (λ u. let l : suc k ≡ length (word w) = omega (arith, ltb-false (k + 1) _ u) in
    let n = behind-then w k g l in
    rw (e, u) (n.0, word_next (word w) _ k h b t e ∙ rw (word_over (word w) _ (suc k) (omega arith) ∙ n.1))))
    (λ e. rw (e, word-off (word w) _ k h b t e) bad-here)

-- ---- a row or the end, a run or the row's end

unfoldable open_decided : Unit {0}
unfolding open_text filled clear_word clear follows firm opens decided
open_decided = tt

row-then : (g : Said) → read_then row_form (λ x. read_then (many row_form) (λ l. word_then (word Word.End) (λ t. got (g.window, (g.width, (g.windows, g.rows ++ (x ∷ l)))) t))) ≡ word_then (word Word.Row) (behind_then Word.Row g)
unfolding word behind_then after after_low rest_runs rest_rows
row-then g = simp (trail-then, both-then, lead-then, number-then, append_assoc)

end-then : (g : Said) → word_then (word Word.End) (λ t. got (g.window, (g.width, (g.windows, g.rows ++ []))) t) ≡ word_then (word Word.End) (behind_then Word.End g)
unfolding behind_then
end-then g = rw append-nil

rows-pick : (g : Said) (b : ℕ) (u : List ℕ) → rest_rows g (b ∷ u) ≡ word_then (word (pick Turn.Rows b)) (behind_then (pick Turn.Rows b) g) (b ∷ u)
unfolding rest_rows pick open_decided
rows-pick g b u =
    many-then row_form refl (λ v. begun refl) _ b u
    ∙ on-flag (eqb b 40) (λ e. rw e (rw (row-then g))) (λ e. rw e (rw (end-then g)))

run-then : (g : Said) → read_then run_form (λ x. read_then (many run_form) (λ l. word_then (word Word.RowEnd) (rest_rows (closed_with g (x ∷ l))))) ≡ word_then (word Word.Run) (behind_then Word.Run g)
unfolding word behind_then after after_left after_right rest_runs rest_rows
run-then g = simp (trail-then, both-then, lead-then, number-then, append_assoc)

row-end-then : (g : Said) → word_then (word Word.RowEnd) (rest_rows (closed_with g [])) ≡ word_then (word Word.RowEnd) (behind_then Word.RowEnd g)
unfolding behind_then
row-end-then g = rw append-nil

runs-pick : (g : Said) (b : ℕ) (u : List ℕ) → rest_runs g (b ∷ u) ≡ word_then (word (pick Turn.Runs b)) (behind_then (pick Turn.Runs b) g) (b ∷ u)
unfolding rest_runs pick open_decided
runs-pick g b u =
    many-then run_form refl (λ v. begun refl) _ b u
    ∙ on-flag (eqb b 32) (λ e. rw e (rw (run-then g))) (λ e. rw e (rw (row-end-then g)))

turn-pick : (t : Turn) (g : Said) (b : ℕ) (u : List ℕ) → rest_turn t g (b ∷ u) ≡ word_then (word (pick t b)) (behind_then (pick t b) g) (b ∷ u)
unfolding pick
turn-pick (Turn.One w) g b u = refl
turn-pick Turn.Rows g b u = rows-pick g b u
turn-pick Turn.Runs g b u = runs-pick g b u

-- a text may not end between two words
turn-ends : (t : Turn) (g : Said) → rest_turn t g [] ≡ bad []
unfolding rest_rows rest_runs open_decided
turn-ends (Turn.One w) g = word-short (word w) _ 0 (word-long w)
turn-ends Turn.Rows g = many-ends row_form refl (λ v. begun refl) _ ∙ word-short _ _ 0 (word-long Word.End)
turn-ends Turn.Runs g = many-ends run_form refl (λ v. begun refl) _ ∙ word-short _ _ 0 (word-long Word.RowEnd)

-- behind a number comes its turn
after_turn : (p : Field) (g : Said) → after p g ≡ rest_turn (turn_after p) g
unfolding after turn_after after_window after_width after_windows after_low after_left after_right behind_then
after_turn Field.Window g = refl
after_turn Field.Width g = refl
after_turn Field.Windows g = refl
after_turn Field.Low g = refl
after_turn Field.Up g = refl
after_turn Field.Left g = refl
after_turn Field.Right g = refl

-- ---- every state

pub some_same : {x y : Reading} → Some x ≡ Some y → x ≡ y
some_same e = cc

pub none-some : {A : Type 0} {x : Reading} → None ≡ Some x → A
none-some e = let z : ◌≡◌ {A = ℕ} 0 1 = cc in absurd (omega arith)

-- behind a number or between two words
turn-onto : (s : Turn) (g : Said) (b : ℕ) (t : List ℕ) → Onto Good rest (turned (reach (pick s b) 0 b) g) b t (rest_turn s g (b ∷ t))
turn-onto s g b t = let w = pick s b in rw (turn-pick s g b t) (rw (not_first w) at (word-onto w 0 b (word-long w) g t))

onto : (s : State) (g : Said) (b : ℕ) (t : List ℕ) → GoodState s → Onto Good rest (moved (index_step s b) g) b t (rest_state s g (b ∷ t))
unfolding index_step word_step turn_step end_step number_step rest
onto (State.In w k) g b t h = rw (word_moved (reach w k b) (closes w k) g) (word-onto w k b h g t)
onto (State.At p m) g b t h =
    let f : ℤ → Rest V' = λ z. after p (told p z g) in
    on-option (num_step m b)
    (λ q i. rw (i, number_more f m b q t i) (good-step m b q i, refl))
    (λ i. on-option (whole m)
    (λ z j. rw (i, j, number-stop f m b t i, j, led-moved _ _ g (told p z g) (λ s. refl), after_turn p (told p z g)) (turn-onto (turn_after p) (told p z g) b t))
    (λ j. rw (i, j, number-stop f m b t i, j) bad-here))
onto (State.Before s) g b t h = rw (led-moved _ _ g g (λ s. refl)) (turn-onto s g b t)
onto State.Done g b t h = over

-- the text's end
ends : (s : State) (g : Said) → GoodState s → rest_state s g [] ≡ at_rest (accept_state s g)
unfolding number_then
ends (State.In w k) g h = word-short (word w) _ k h
ends (State.At p n) g h =
    on-option (whole n)
    (λ z j. rw (j, after_turn p (told p z g)) (turn-ends (turn_after p) (told p z g)))
    (λ j. rw j)
ends (State.Before t) g h = turn-ends t g
ends State.Done g h = refl

follows-index : Follows step accept Good rest
unfolding step accept rest
follows-index = follows_by Good rest step accept (λ s b t. onto s.state s.said b t) (λ s. ends s.state s.said)

index-then : read_then index_form (λ v u. got v u) ≡ word_then (word Word.Window) (behind_then Word.Window nothing_said)
unfolding word behind_then after after_window after_width after_windows rest_rows
index-then = simp (trail-then, both-then, lead-then, number-then)

begins : (t : List ℕ) → read index_form t ≡ rest start t
unfolding rest
begins t = read-alone index_form t ∙ rw index-then

pub index-good : Good start
index-good = word-long Word.Window

pub stays : (x : Reading) (b : ℕ) (n : Reading) → Good x → step x b ≡ Some n → Good n
stays = follows-index.stays-good

-- feeding a text, whatever its pieces, comes to what the form says of it
pub index-comes : (t : List ℕ) → read_text index_form t ≡ judged accept (feed step (going start 0) t)
index-comes = form-comes index_form step accept Good rest follows-index start index-good begins
