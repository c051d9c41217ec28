-- An event of the loop that reads on to the end of a row: what is left of the text comes to the same line (`Going`). A line that has been read can be read on (`next-ready`).
use Rattle.meaning_numbers.proofs.Prelude.{ℕ, zero, suc, ◌+◌, ◌<◌, ◌≤◌, ℤ, length, get_or, set, drop, length-set, drop_of_length-le, length-drop, drop-cons, List, [], ◌∷◌, ◌≡◌, refl, sym, ap, ◌∙◌, subst, add-one, arith}
use Rattle.meaning_rows.specs.declared.Row.{Row}
use Rattle.text_index.specs.{declared.Field.Field, declared.State.State, declared.Moved.Moved, Step.index_step, Step.GoodState}
use Rattle.text_index.proofs.{Follow.index-good, View.step-good}
use Rattle.text_event.specs.{declared.Event.Event, Event.Quiet, Event.RunsFrom, Event.EventAt, Event.at_runs}
use Rattle.text_event.proofs.EventLaws.{quiet_keeps, value_keeps, run-keeps, row_keeps, runs-keeps}
use Rattle.text_judge.specs.{declared.Tally.Tally, Tally.tell_tally, Tally.shut_tally, Tally.told_run, Tally.Fits}
use Rattle.text_judge.proofs.Seen.{start_fits, same-fits, tell-fits, shut-fits}
use Rattle.text_rows.specs.declared.Line.{Line}
use Rattle.text_rows.specs.Line.{row_made, line_end, line_from, no_line, next_line, line_at, stored, Ready}

-- what a byte does
abbrev line_moved : Moved → State → Tally → ℕ → List ℕ → Line
line_moved (Moved.To n) s t i l = line_from n t (suc i) l
line_moved (Moved.Value n p z) s t i l = line_from n (tell_tally p z t) (suc i) l
line_moved (Moved.Closed n) s t i l = record { state = n; at = suc i; tally = shut_tally t; row = row_made t }
line_moved Moved.Refuse s t i l = line_end s i t

pub line-byte : (s : State) (t : Tally) (i b : ℕ) (l : List ℕ) (m : Moved) → index_step s b ≡ m → line_from s t i (b ∷ l) ≡ line_moved m s t i l
unfolding line_from
line-byte s t i b l (Moved.To n) e = rw (e, line_from) refl
line-byte s t i b l (Moved.Value n p z) e = rw (e, line_from) refl
line-byte s t i b l (Moved.Closed n) e = rw (e, line_from) refl
line-byte s t i b l Moved.Refuse e = rw (e, line_from) refl

-- ---- the loop

module _ (text : List ℕ) (s₀ : State) (t₀ : Tally) (i₀ : ℕ) where
  abbrev whole : Line
  whole = line_from s₀ t₀ i₀ (drop i₀ text)

  -- after i bytes
  pub record Going (s : State) (t : Tally) (i : ℕ) : Type 0 where
    pub good : GoodState s
    pub fits : Fits t i
    pub inside : i ≤ length text
    pub same : line_from s t i (drop i text) ≡ whole

  pub going_start : GoodState s₀ → Fits t₀ i₀ → i₀ ≤ length text → Going s₀ t₀ i₀
  going_start g f h = record { good = g; fits = f; inside = h; same = refl }

  module _ (s : State) (t : Tally) (i : ℕ) (r : Going s t i) (h : i < length text) where
    turn : (m : Moved) → index_step s (get_or text i 0) ≡ m → line_moved m s t i (drop (suc i) text) ≡ whole
    turn m e = sym (line-byte s t i _ _ m e) ∙ ap (line_from s t i) (sym (drop-cons text i 0 h)) ∙ r.same

    next : (m : Moved) (n : State) (u : Tally) → index_step s (get_or text i 0) ≡ m → GoodState n → Fits u (i + 1) → line_moved m s t i (drop (suc i) text) ≡ line_from n u (suc i) (drop (suc i) text) → Going n u (i + 1)
    next m n u e g f k =
        let q : i + 1 ≡ suc i = omega arith in
        record { good = g; fits = f; inside = omega arith; same = rw q (sym k ∙ turn m e) }

    going-to : (n : State) → index_step s (get_or text i 0) ≡ Moved.To n → Going n t (i + 1)
    going-to n e = next _ n t e (step-good s _ _ r.good e) (same-fits t i r.fits) refl

    going-value : (n : State) (q : Field) (z : ℤ) → index_step s (get_or text i 0) ≡ Moved.Value n q z → Going n (tell_tally q z t) (i + 1)
    going-value n q z e = next _ n _ e (step-good s _ _ r.good e) (tell-fits q z t i r.fits) refl

    going-closed : (n : State) → index_step s (get_or text i 0) ≡ Moved.Closed n → record { state = n; at = i + 1; tally = shut_tally t; row = row_made t } ≡ whole
    going-closed n e = let q : i + 1 ≡ suc i = omega arith in rw q (turn (Moved.Closed n) e)

    going-refuse : index_step s (get_or text i 0) ≡ Moved.Refuse → line_end s i t ≡ whole
    going-refuse e = turn Moved.Refuse e

  going_end : (s : State) (t : Tally) (i : ℕ) → Going s t i → length text ≤ i → line_end s i t ≡ whole
  unfolding line_from
  going_end s t i r h = rw (drop_of_length-le text h) at r.same

  -- runs one after the other
  pub line-runs : {t u : Tally} {i j : ℕ} → RunsFrom tell_tally text t i u j → Going at_runs t i → Going at_runs u j
  line-runs = runs-keeps tell_tally text Going going-to going-value

  module _ {s : State} {t : Tally} {i : ℕ} (r : Going s t i) where
    quiet : {n : State} {j : ℕ} → Quiet text s i n j → Going n t j
    quiet q = quiet_keeps tell_tally text Going going-to going-value t q r

    pub line-run : {u : Tally} (l z j : ℕ) → EventAt text s i (Event.Run l z j) → u ≡ told_run l z t → Going at_runs u j
    line-run l z j e told = rw told (run-keeps tell_tally text Going going-to going-value t e.1 (rw e.0 at r))

    pub line_row : {u : Tally} (low up : ℤ) (l z j : ℕ) → EventAt text s i (Event.Row low up l z j) → u ≡ told_run l z (tell_tally Field.Up up (tell_tally Field.Low low t)) → Going at_runs u j
    line_row low up l z j e told = rw told (row_keeps tell_tally text Going going-to going-value t e.1 (rw e.0 at r))

    pub line-value : (n : State) (p : Field) (z : ℤ) (j : ℕ) → EventAt text s i (Event.Value n p z j) → Going n (tell_tally p z t) j
    line-value n p z j e = value_keeps tell_tally text Going going-to going-value t e r

    pub line-closed : (n : State) (j : ℕ) → EventAt text s i (Event.Closed n j) → record { state = n; at = j; tally = shut_tally t; row = row_made t } ≡ whole
    line-closed n j e = rw e.next (going-closed e.last t _ (quiet e.quiet) e.inside n e.ends)

    pub line-refuse : (n : State) (j : ℕ) → EventAt text s i (Event.Refuse n j) → line_end n j t ≡ whole
    line-refuse n j e = going-refuse n t j (quiet e.0) e.1 e.2

    pub line-stop : (n : State) (j : ℕ) → EventAt text s i (Event.End n j) → line_end n j t ≡ whole
    line-stop n j e = going_end n t j (quiet e.0) e.1

-- ---- reading on

one_more : (t : Tally) (i : ℕ) → Fits t (i + 1) → Fits t (suc i)
one_more t i f = subst (Fits t) (add-one i) f

ready-move : (n : ℕ) (l : List ℕ) → ((s : State) (t : Tally) (i : ℕ) → i + length l ≡ n → GoodState s → Fits t i → Ready n (line_from s t i l))
    → (s : State) (t : Tally) (i b : ℕ) (m : Moved) → index_step s b ≡ m → i + suc (length l) ≡ n → GoodState s → Fits t i → Ready n (line_moved m s t i l)
ready-move n l on s t i b (Moved.To q) e h g f = on q t (suc i) (omega arith) (step-good s b _ g e) (one_more t i (same-fits t i f))
ready-move n l on s t i b (Moved.Value q p z) e h g f = on q _ (suc i) (omega arith) (step-good s b _ g e) (one_more _ i (tell-fits p z t i f))
ready-move n l on s t i b (Moved.Closed q) e h g f = record { good = step-good s b _ g e; fits = one_more _ i (shut-fits t i f); inside = omega arith }
ready-move n l on s t i b Moved.Refuse e h g f = record { good = g; fits = f; inside = omega arith }

ready-from : (n : ℕ) (l : List ℕ) (s : State) (t : Tally) (i : ℕ) → i + length l ≡ n → GoodState s → Fits t i → Ready n (line_from s t i l)
unfolding line_from
ready-from n [] s t i h g f = record { good = g; fits = f; inside = omega arith }
ready-from n (b ∷ l) s t i h g f = subst (Ready n) (sym (line-byte s t i b l _ refl)) (ready-move n l (ready-from n l) s t i b _ refl h g f)

pub next-ready : (text : List ℕ) (p : Line) → Ready (length text) p → Ready (length text) (next_line text p)
unfolding next_line
next-ready text p r = ready-from _ _ _ _ p.at (omega (arith, length-drop p.at text, r.inside)) r.good r.fits

pub line-ready : (text : List ℕ) (k : ℕ) → Ready (length text) (line_at text k)
unfolding line_at
line-ready text zero = record { good = index-good; fits = start_fits; inside = omega arith }
line-ready text (suc k) = next-ready text _ (line-ready text k)

-- ---- the records

pub stored-none : (text : List ℕ) (rows : List Row) → stored text 0 rows ≡ rows
unfolding stored
stored-none text rows = refl

pub line-none : (text : List ℕ) → no_line ≡ line_at text 0
unfolding line_at
line-none text = refl

pub line-more : (text : List ℕ) (k : ℕ) → next_line text (line_at text k) ≡ line_at text (k + 1)
unfolding line_at
line-more text k = rw (add-one k) refl

pub stored_more : (text : List ℕ) (n : ℕ) (rows : List Row) → stored text (n + 1) rows ≡ set (stored text n rows) n (next_line text (line_at text n)).row
unfolding stored line_at
stored_more text n rows = rw (add-one n) refl

pub length-stored : (text : List ℕ) (n : ℕ) (rows : List Row) → length (stored text n rows) ≡ length rows
unfolding stored
length-stored text zero rows = refl
length-stored text (suc n) rows = length-set (stored text n rows) n (line_at text (suc n)).row ∙ length-stored text n rows
