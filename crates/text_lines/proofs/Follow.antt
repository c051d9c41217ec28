-- The automaton of the lines follows `series_form` and `program_form`, each from its own start: each state with what has been said so far has a reader for the rest of the text, and a byte takes it to the next. So the bytes of a text come to what `read_text` says.
use Rattle.meaning_numbers.proofs.Prelude.{ℕ, suc, ◌+◌, ◌<◌, ltb-true, ltb-false, ltb, eqb, ℤ, length, drop, Bool, true, false, cond, List, [], ◌∷◌, append_assoc, append-nil, Option, None, Some, ◌≡◌, refl, ◌∙◌, arith}
use Rattle.meaning_text.specs.{Bytes.bytes, Number.got, Number.bad, Form.number, Form.one_of, Form.lead, Form.read, Read.read_text, Texts.values_form, Texts.series_form, Texts.program_form}
use Rattle.meaning_text.proofs.Automaton.{on-option, going, feed, bad-here, over, at_rest, Follows, judged, form-comes}
use Rattle.meaning_text.proofs.Onward.{Rest, word_then, read_then, word-both, read-alone, lead-then, trail-then, both-then, one_then, one-ends, many-then, many-ends, word_over, word_next, word-off, word-short}
use Rattle.meaning_text.proofs.{Open.open_text, Form.filled, Form.clear_word, Form.clear, Form.follows, Form.firm, Form.opens, Form.decided, Reading.on-flag, Reading.begun}
use Rattle.text_numbers.specs.{declared.Numeral.Numeral, Number.num_step, Number.whole}
use Rattle.text_numbers.proofs.{Number.good-step, Onto.Onto, Onto.follows_by, Onward.number_then, Onward.number_more, Onward.number-stop, Onward.number-then}
use Rattle.text_lines.specs.Follow.{Said, nothing_said, series_more, query_more, told, kind_said, named, Reading, at, moved, step, program_start, series_start, series_value, program_value}
use Rattle.text_lines.specs.Step.{word, behind, turn_after, pick, reach, led, word_step, turn_step, end_step, number_step, line_step, GoodState}
use Rattle.text_lines.specs.{declared.Word.Word, declared.Field.Field, declared.Turn.Turn, declared.State.State, declared.Moved.Moved}
use Rattle.text_lines.proofs.Step.{word-long}

-- ---- the automaton

abbrev pub Good : Reading → Type 0
Good x = GoodState x.state

-- ---- the rest of the text, where `fin` makes the value of what has been said

module _ {A : Type 0} (fin : Said → A) where
  abbrev pub accept_state : State → Said → Option A
  accept_state (State.In w k) g = None
  accept_state (State.At p n) g = None
  accept_state (State.Before t) g = None
  accept_state State.Done g = Some (fin g)

  unfoldable pub accept : Reading → Option A
  accept x = accept_state x.state x.said

  unfoldable rest_query : Said → Rest A
  rest_query g = read_then values_form (λ l. word_then (word Word.End) (λ t. got (fin (query_more g l)) t))

  after_shift : Said → Rest A
  after_shift g = word_then (word Word.Query) (rest_query g)

  after_scale : Said → Rest A
  after_scale g = word_then (word (Word.Space Field.Shift)) (number_then Numeral.Start (λ z. after_shift (told Field.Shift z g)))

  after_threshold : Said → Rest A
  after_threshold g = word_then (word (Word.Space Field.Scale)) (number_then Numeral.Start (λ z. after_scale (told Field.Scale z g)))

  after_band : Said → Rest A
  after_band g = word_then (word (Word.Space Field.Threshold)) (number_then Numeral.Start (λ z. after_threshold (told Field.Threshold z g)))

  after_kind : Said → Rest A
  after_kind g = word_then (word (Word.Space Field.Band)) (number_then Numeral.Start (λ z. after_band (told Field.Band z g)))

  unfoldable rest_kind : Said → Rest A
  rest_kind g = read_then (one_of "raw" "normal") (λ r. after_kind (kind_said r g))

  unfoldable rest_series : Said → Rest A
  rest_series g = read_then values_form (λ l. word_then (word Word.Find) (rest_kind (series_more g l)))

  after_merge : Said → Rest A
  after_merge g = word_then (word Word.Series) (rest_series g)

  after_width : Said → Rest A
  after_width g = word_then (word Word.Merge) (number_then Numeral.Start (λ z. after_merge (told Field.Merge z g)))

  after_window : Said → Rest A
  after_window g = word_then (word Word.Width) (number_then Numeral.Start (λ z. after_width (told Field.Width z g)))

  unfoldable rest_line : Said → Rest A
  rest_line g = read_then values_form (λ l. word_then (word Word.LineEnd) (λ t. got (fin (series_more g l)) t))

  -- behind a number
  unfoldable after : Field → Said → Rest A
  after Field.Window = after_window
  after Field.Width = after_width
  after Field.Merge = after_merge
  after Field.Item = rest_series
  after Field.Band = after_band
  after Field.Threshold = after_threshold
  after Field.Scale = after_scale
  after Field.Shift = after_shift
  after Field.Asked = rest_query
  after Field.Entry = rest_line

  abbrev from_number : Field → Numeral → Said → Rest A
  from_number p n g = number_then n (λ z. after p (told p z g))

  -- behind a word
  unfoldable behind_then : Word → Said → Rest A
  behind_then Word.Window g = from_number Field.Window Numeral.Start g
  behind_then Word.Width g = from_number Field.Width Numeral.Start g
  behind_then Word.Merge g = from_number Field.Merge Numeral.Start g
  behind_then Word.Series g = rest_series g
  behind_then Word.Find g = rest_kind g
  behind_then Word.Raw g = after_kind (kind_said true g)
  behind_then Word.Normal g = after_kind (kind_said false g)
  behind_then Word.Query g = rest_query g
  behind_then Word.End g = λ t. got (fin g) t
  behind_then Word.Line g = rest_line g
  behind_then Word.LineEnd g = λ t. got (fin g) t
  behind_then (Word.Space p) g = from_number p Numeral.Start g

  abbrev rest_turn : Turn → Said → Rest A
  rest_turn (Turn.One w) g = word_then (word w) (behind_then w g)
  rest_turn Turn.Series g = rest_series g
  rest_turn Turn.Kind g = rest_kind g
  rest_turn Turn.Query g = rest_query g
  rest_turn Turn.Line g = rest_line g

  abbrev rest_state : State → Said → Rest A
  rest_state (State.In w k) g = word_then (drop k (word w)) (behind_then w g)
  rest_state (State.At p n) g = from_number p n g
  rest_state (State.Before t) g = rest_turn t g
  rest_state State.Done g = λ t. got (fin g) t

  unfoldable rest : Reading → Rest A
  rest x = rest_state x.state x.said

-- ---- words

-- where a byte leads
abbrev turned : Option State → Said → Option Reading
turned (Some s) g = Some (at s g)
turned None g = None

led-moved : (x : Option State) (f : State → Moved) (g h : Said) → ((s : State) → moved (f s) g ≡ Some (at s h)) → moved (led x f) g ≡ turned x h
led-moved (Some s) f g h e = e s
led-moved None f g h e = refl

word_moved : (x : Option State) (more : Bool) (w : Word) (g : Said) → moved (led x (λ s. cond more (Moved.To s) (Moved.Ended s w))) g ≡ turned x (cond more g (named w g))
word_moved x true w g = led-moved x _ g g (λ s. refl)
word_moved x false w g = led-moved x _ g _ (λ s. refl)

module _ {A : Type 0} (fin : Said → A) where
  behind-then : (w : Word) (g : Said) → GoodState (behind w) × (behind_then fin w g ≡ rest_state fin (behind w) (named w g))
  unfolding behind behind_then after_kind after
  behind-then Word.Window g = (tt, refl)
  behind-then Word.Width g = (tt, refl)
  behind-then Word.Merge g = (tt, refl)
  behind-then Word.Series g = (tt, refl)
  behind-then Word.Find g = (tt, refl)
  behind-then Word.Raw g = (tt, refl)
  behind-then Word.Normal g = (tt, refl)
  behind-then Word.Query g = (tt, refl)
  behind-then Word.End g = (tt, refl)
  behind-then Word.Line g = (tt, refl)
  behind-then Word.LineEnd g = (tt, refl)
  behind-then (Word.Space p) g = (tt, refl)

  -- a word of one byte says nothing
  unnamed : (w : Word) (g : Said) → cond (ltb 1 (length (word w))) g (named w g) ≡ g
  unfolding word bytes
  unnamed Word.Window g = refl
  unnamed Word.Width g = refl
  unnamed Word.Merge g = refl
  unnamed Word.Series g = refl
  unnamed Word.Find g = refl
  unnamed Word.Raw g = refl
  unnamed Word.Normal g = refl
  unnamed Word.Query g = refl
  unnamed Word.End g = refl
  unnamed Word.Line g = refl
  unnamed Word.LineEnd g = refl
  unnamed (Word.Space p) g = refl

  -- a byte of a word
  word-onto : (w : Word) (k b : ℕ) → k < length (word w) → (g : Said) (t : List ℕ) → Onto Good (rest fin) (turned (reach w k b) (cond (ltb (k + 1) (length (word w))) g (named w g))) b t (word_then (drop k (word w)) (behind_then fin w g) (b ∷ t))
  unfolding reach rest
  word-onto w k b h g t =
      on-flag _
      (λ e. on-flag (ltb (k + 1) (length (word w)))
      (λ u. let a : suc k ≡ k + 1 = omega arith in
      rw (e, u) (ltb-true (k + 1) _ u, word_next _ _ k h b t e ∙ rw a))
      (λ u. let n = behind-then w g in
      rw (e, u) (n.0, word_next _ _ k h b t e ∙ rw (word_over (word w) (behind_then fin w g) (suc k) (omega (arith, ltb-false (k + 1) (length (word w)) u)) ∙ n.1))))
      (λ e. rw (e, word-off (word w) (behind_then fin w g) k h b t e) bad-here)

  -- ---- between two words

  unfoldable open_decided : Unit {0}
  unfolding open_text filled clear_word clear follows firm opens decided
  open_decided = tt

  -- values, each behind a space
  module _ (k : List ℤ → Rest A) where
    value-then : read_then (lead " " number) (λ x. read_then values_form (λ l. k (x ∷ l))) ≡ word_then (bytes " ") (number_then Numeral.Start (λ x. read_then values_form (λ l. k (x ∷ l))))
    value-then = simp (lead-then, number-then)

    values-then : (b : ℕ) (u : List ℕ) → read_then values_form k (b ∷ u) ≡ cond (eqb b 32) (word_then (bytes " ") (number_then Numeral.Start (λ x. read_then values_form (λ l. k (x ∷ l)))) (b ∷ u)) (k [] (b ∷ u))
    unfolding open_decided
    values-then b u =
        many-then _ refl (λ v. begun refl) k b u
        ∙ on-flag (eqb b 32) (λ e. rw e (rw value-then)) (λ e. rw e)

    values-end : read_then values_form k [] ≡ k [] []
    unfolding open_decided
    values-end = many-ends _ refl (λ v. begun refl) k

  series-pick : (g : Said) (b : ℕ) (u : List ℕ) → rest_series fin g (b ∷ u) ≡ word_then (word (pick Turn.Series b)) (behind_then fin (pick Turn.Series b) g) (b ∷ u)
  unfolding rest_series pick behind_then after word
  series-pick g b u = values-then _ b u ∙ on-flag (eqb b 32) (λ e. rw e (simp append_assoc)) (λ e. rw e (simp append-nil))

  query-pick : (g : Said) (b : ℕ) (u : List ℕ) → rest_query fin g (b ∷ u) ≡ word_then (word (pick Turn.Query b)) (behind_then fin (pick Turn.Query b) g) (b ∷ u)
  unfolding rest_query pick behind_then after word
  query-pick g b u = values-then _ b u ∙ on-flag (eqb b 32) (λ e. rw e (simp append_assoc)) (λ e. rw e (simp append-nil))

  line-pick : (g : Said) (b : ℕ) (u : List ℕ) → rest_line fin g (b ∷ u) ≡ word_then (word (pick Turn.Line b)) (behind_then fin (pick Turn.Line b) g) (b ∷ u)
  unfolding rest_line pick behind_then after word
  line-pick g b u = values-then _ b u ∙ on-flag (eqb b 32) (λ e. rw e (simp append_assoc)) (λ e. rw e (simp append-nil))

  kind-pick : (g : Said) (b : ℕ) (u : List ℕ) → rest_kind fin g (b ∷ u) ≡ word_then (word (pick Turn.Kind b)) (behind_then fin (pick Turn.Kind b) g) (b ∷ u)
  unfolding rest_kind pick behind_then word open_text
  kind-pick g b u = one_then "raw" "normal" _ b u ∙ on-flag (eqb b 114) (λ e. rw e) (λ e. rw e)

  turn-pick : (t : Turn) (g : Said) (b : ℕ) (u : List ℕ) → rest_turn fin t g (b ∷ u) ≡ word_then (word (pick t b)) (behind_then fin (pick t b) g) (b ∷ u)
  unfolding pick
  turn-pick (Turn.One w) g b u = refl
  turn-pick Turn.Series g b u = series-pick g b u
  turn-pick Turn.Kind g b u = kind-pick g b u
  turn-pick Turn.Query g b u = query-pick g b u
  turn-pick Turn.Line g b u = line-pick g b u

  -- a text may not end between two words
  turn-ends : (t : Turn) (g : Said) → rest_turn fin t g [] ≡ bad []
  unfolding rest_series rest_query rest_kind rest_line
  turn-ends (Turn.One w) g = word-short _ _ 0 (word-long w)
  turn-ends Turn.Series g = values-end _ ∙ word-short _ _ 0 (word-long Word.Find)
  turn-ends Turn.Kind g = one-ends "raw" "normal" _
  turn-ends Turn.Query g = values-end _ ∙ word-short _ _ 0 (word-long Word.End)
  turn-ends Turn.Line g = values-end _ ∙ word-short _ _ 0 (word-long Word.LineEnd)

  -- behind a number comes its turn
  after_turn : (p : Field) (g : Said) → after fin p g ≡ rest_turn fin (turn_after p) g
  unfolding after turn_after after_window after_width after_merge after_band after_threshold after_scale after_shift behind_then
  after_turn Field.Window g = refl
  after_turn Field.Width g = refl
  after_turn Field.Merge g = refl
  after_turn Field.Item g = refl
  after_turn Field.Band g = refl
  after_turn Field.Threshold g = refl
  after_turn Field.Scale g = refl
  after_turn Field.Shift g = refl
  after_turn Field.Asked g = refl
  after_turn Field.Entry g = refl

  -- behind a number or between two words
  turn-onto : (s : Turn) (g : Said) (b : ℕ) (t : List ℕ) → Onto Good (rest fin) (turned (reach (pick s b) 0 b) g) b t (rest_turn fin s g (b ∷ t))
  turn-onto s g b t = let w = pick s b in rw (turn-pick s g b t) (rw (unnamed w g) at (word-onto w 0 b (word-long w) g t))

  onto : (s : State) (g : Said) (b : ℕ) (t : List ℕ) → GoodState s → Onto Good (rest fin) (moved (line_step s b) g) b t (rest_state fin s g (b ∷ t))
  unfolding line_step word_step turn_step end_step number_step rest
  onto (State.In w k) g b t h = rw (word_moved _ (ltb (k + 1) (length (word w))) w g) (word-onto w k b h g t)
  onto (State.At p m) g b t h =
      let f : ℤ → Rest A = λ z. after fin p (told p z g) in
      on-option (num_step m b)
      (λ q i. rw (i, number_more f m b q t i) (good-step m b q i, refl))
      (λ i. on-option (whole m)
      (λ z j. rw (i, j, number-stop f m b t i, j, led-moved (reach (pick (turn_after p) b) 0 b) _ g (told p z g) (λ s. refl), after_turn p (told p z g)) (turn-onto (turn_after p) (told p z g) b t))
      (λ j. rw (i, j, number-stop f m b t i, j) bad-here))
  onto (State.Before s) g b t h = rw (led-moved (reach (pick s b) 0 b) _ g g (λ s. refl)) (turn-onto s g b t)
  onto State.Done g b t h = over

  -- the text's end
  ends : (s : State) (g : Said) → GoodState s → rest_state fin s g [] ≡ at_rest (accept_state fin s g)
  unfolding number_then
  ends (State.In w k) g h = word-short _ _ k h
  ends (State.At p n) g h =
      on-option (whole n)
      (λ z j. rw (j, after_turn p _) (turn-ends (turn_after p) _))
      (λ j. rw j)
  ends (State.Before t) g h = turn-ends t g
  ends State.Done g h = refl

  follows-lines : Follows step (accept fin) Good (rest fin)
  unfolding step accept rest
  follows-lines = follows_by Good (rest fin) step (accept fin) (λ s b t. onto s.state s.said b t) (λ s. ends s.state s.said)

-- ---- the two forms

pub series-good : Good series_start
series-good = word-long Word.Line

pub program-good : Good program_start
program-good = word-long Word.Window

pub stays : (x : Reading) (b : ℕ) (n : Reading) → Good x → step x b ≡ Some n → Good n
stays = (follows-lines (λ g. g)).stays-good

series-then : read_then series_form (λ v u. got v u) ≡ word_then (word Word.Line) (behind_then series_value Word.Line nothing_said)
unfolding word behind_then rest_line
series-then = simp (lead-then, trail-then)

series-begins : (t : List ℕ) → read series_form t ≡ rest series_value series_start t
unfolding rest
series-begins t = read-alone series_form t ∙ rw series-then

program-then : read_then program_form (λ v u. got v u) ≡ word_then (word Word.Window) (behind_then program_value Word.Window nothing_said)
unfolding word bytes behind_then after after_window after_width after_merge rest_series rest_kind after_kind after_band after_threshold after_scale after_shift rest_query
program-then = simp (trail-then, both-then, lead-then, number-then, word-both)

program-begins : (t : List ℕ) → read program_form t ≡ rest program_value program_start t
unfolding rest
program-begins t = read-alone program_form t ∙ rw program-then

-- feeding a text, whatever its pieces, comes to what the form says of it
pub series-comes : (t : List ℕ) → read_text series_form t ≡ judged (accept series_value) (feed step (going series_start 0) t)
series-comes = form-comes series_form step (accept series_value) Good (rest series_value) (follows-lines series_value) series_start series-good series-begins

pub program-comes : (t : List ℕ) → read_text program_form t ≡ judged (accept program_value) (feed step (going program_start 0) t)
program-comes = form-comes program_form step (accept program_value) Good (rest program_value) (follows-lines program_value) program_start program-good program-begins
