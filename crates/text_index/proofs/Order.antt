-- Where a text stands tells what has not been said yet: no row and no run before the head's end, and no run between two rows.
use Rattle.meaning_numbers.proofs.Prelude.{ℕ, suc, ◌+◌, ◌<◌, ltb-true, ltb-false, eqb, ℤ, length, get_or, cond, [], Option, None, Some, ◌≡◌, refl, arith}
use Rattle.meaning_text.specs.Bytes.{bytes}
use Rattle.meaning_text.proofs.Reading.{on-flag}
use Rattle.text_numbers.specs.Number.{num_step, whole}
use Rattle.meaning_text.proofs.Automaton.{on-option}
use Rattle.text_index.specs.Step.{word, behind, turn_after, pick, reach, closes, led, word_step, turn_step, end_step, number_step, index_step, GoodState}
use Rattle.text_index.specs.{declared.Word.Word, declared.Field.Field, declared.Turn.Turn, declared.State.State, declared.Moved.Moved}
use Rattle.text_index.proofs.Step.{word-long}
use Rattle.text_index.proofs.Follow.{Said, told, closed, Reading, moved, step, turned, led-moved, word_moved, inside, not_first}

-- the head; between two rows; in a row behind its range
pub data Part : Type 0 where
  heading : Part
  between : Part
  within : Part

abbrev pub word_part : Word → Part
word_part Word.Window = heading
word_part Word.Width = heading
word_part Word.Windows = heading
word_part Word.Head = heading
word_part Word.Row = between
word_part Word.Up = between
word_part Word.Run = within
word_part Word.Right = within
word_part Word.RunEnd = within
word_part Word.RowEnd = within
word_part Word.End = between

abbrev pub place_part : Field → Part
place_part Field.Window = heading
place_part Field.Width = heading
place_part Field.Windows = heading
place_part Field.Low = between
place_part Field.Up = between
place_part Field.Left = within
place_part Field.Right = within

abbrev pub turn_part : Turn → Part
turn_part (Turn.One w) = word_part w
turn_part Turn.Rows = between
turn_part Turn.Runs = within

abbrev pub state_part : State → Part
state_part (State.In w k) = word_part w
state_part (State.At p n) = place_part p
state_part (State.Before t) = turn_part t
state_part State.Done = between

-- what has not been said
abbrev pub Order : Part → Said → Type 0
Order heading g = (g.rows ≡ []) × (g.runs ≡ [])
Order between g = g.runs ≡ []
Order within g = Unit {0}

-- ---- words

order-behind : (w : Word) (k : ℕ) (g : Said) → suc k ≡ length (word w) → Order (word_part w) g → Order (state_part (behind w)) (cond (closes w k) (closed g) g)
unfolding word bytes behind closes
order-behind Word.Window k g h o = o
order-behind Word.Width k g h o = o
order-behind Word.Windows k g h o = o
order-behind Word.Head k g h o = o.1
order-behind Word.Row k g h o = o
order-behind Word.Up k g h o = o
order-behind Word.Run k g h o = o
order-behind Word.Right k g h o = o
order-behind Word.RunEnd k g h o = o
order-behind Word.RowEnd k g h o = let e : k ≡ 1 = omega arith in rw e refl
order-behind Word.End k g h o = o

abbrev Kept : Option Reading → Type 0
Kept (Some n) = Order (state_part n.state) n.said
Kept None = Unit {0}

word-order : (w : Word) (k b : ℕ) → k < length (word w) → (g : Said) → Order (word_part w) g → Kept (turned (reach w k b) (cond (closes w k) (closed g) g))
unfolding reach
word-order w k b h g o =
    on-flag (eqb b (get_or (word w) k 0))
    (λ t. on-flag _
    (λ u. rw (t, u, inside w k (omega (arith, ltb-true (k + 1) (length (word w)) u))) o)
    (λ u. rw (t, u) (order-behind w k g (omega (arith, ltb-false (k + 1) _ u)) o)))
    (λ t. rw t tt)

order-pick : (t : Turn) (b : ℕ) (g : Said) → Order (turn_part t) g → Order (word_part (pick t b)) g
unfolding pick
order-pick (Turn.One w) b g o = o
order-pick Turn.Rows b g o = on-flag (eqb b 40) (λ e. rw e o) (λ e. rw e o)
order-pick Turn.Runs b g o = on-flag (eqb b 32) (λ e. rw e tt) (λ e. rw e tt)

turn-order : (t : Turn) (b : ℕ) (g : Said) → Order (turn_part t) g → Kept (turned (reach (pick t b) 0 b) g)
turn-order t b g o = let w = pick t b in rw (not_first w) at (word-order w 0 b (word-long w) g (order-pick t b g o))

order-told : (p : Field) (z : ℤ) (g : Said) → Order (place_part p) g → Order (turn_part (turn_after p)) (told p z g)
unfolding turn_after
order-told Field.Window z g o = o
order-told Field.Width z g o = o
order-told Field.Windows z g o = o
order-told Field.Low z g o = o
order-told Field.Up z g o = tt
order-told Field.Left z g o = tt
order-told Field.Right z g o = tt

-- ---- a byte

order-by : (s : State) (g : Said) (b : ℕ) → GoodState s → Order (state_part s) g → Kept (moved (index_step s b) g)
unfolding index_step word_step turn_step end_step number_step
order-by (State.In w k) g b h o = rw (word_moved (reach w k b) (closes w k) g) (word-order w k b h g o)
order-by (State.At p m) g b h o =
    on-option (num_step m b)
    (λ q i. rw i o)
    (λ i. on-option (whole m)
    (λ z j. rw (i, j, led-moved _ _ g (told p z g) (λ s. refl)) (turn-order (turn_after p) b (told p z g) (order-told p z g o)))
    (λ j. rw (i, j) tt))
order-by (State.Before t) g b h o = rw (led-moved _ _ g g (λ s. refl)) (turn-order t b g o)
order-by State.Done g b h o = tt

-- a byte keeps the order
pub order-step : (x : Reading) (b : ℕ) (n : Reading) → GoodState x.state → Order (state_part x.state) x.said → step x b ≡ Some n → Order (state_part n.state) n.said
unfolding step
order-step x b n h o e = rw e at (order-by x.state x.said b h o)

-- a number stands in its own part
abbrev Told : Said → Moved → Type 0
Told g (Moved.To n) = Unit {0}
Told g (Moved.Value n p z) = Order (place_part p) g
Told g (Moved.Closed n) = Unit {0}
Told g Moved.Refuse = Unit {0}

told-led : (g : Said) (x : Option State) (f : State → Moved) → ((s : State) → Told g (f s)) → Told g (led x f)
told-led g (Some s) f h = h s
told-led g None f h = tt

told-by : (s : State) (b : ℕ) (g : Said) → Order (state_part s) g → Told g (index_step s b)
unfolding index_step word_step turn_step end_step number_step
told-by (State.In w k) b g o = told-led g (reach w k b) _ (λ s. on-flag (closes w k) (λ c. rw c tt) (λ c. rw c tt))
told-by (State.At p m) b g o =
    on-option (num_step m b)
    (λ r i. rw i tt)
    (λ i. on-option (whole m) (λ z j. rw (i, j) (told-led g (reach _ 0 b) _ (λ s. o))) (λ j. rw (i, j) tt))
told-by (State.Before t) b g o = told-led g (reach (pick t b) 0 b) _ (λ s. tt)
told-by State.Done b g o = tt

pub order_value : (s : State) (b : ℕ) (n : State) (p : Field) (z : ℤ) (g : Said) → index_step s b ≡ Moved.Value n p z → Order (state_part s) g → Order (place_part p) g
order_value s b n p z g e o = rw e at (told-by s b g o)
