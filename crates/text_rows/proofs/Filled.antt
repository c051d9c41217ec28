-- The rows that a text is read to, line by line, are the row records of its index, and past them records of zeros (`row_at`, `rows-filled`), where the index is well formed. By what has been said after each line.
use Rattle.meaning_numbers.proofs.Prelude.{ℕ, zero, suc, ◌+◌, ◌-◌, ◌<◌, ◌≤◌, min, ℤ, length, get_or, take, drop, replicate, length-replicate, length-append, length-map, length-take, length-drop, List·get_d-eq-default, drop-append_seam, drop-drop, get_or-set_same, get_or-set_other, ext_get_or, true, List, [], ◌∷◌, ◌++◌, map, append_assoc, append-nil, ◌⊎◌, inl, inr, Some, ◌≡◌, refl, sym, ap, ◌∙◌, subst, dec_le, arith}
use Rattle.meaning_rows.specs.{declared.Head.Head, declared.Row.Row, Index.zero_row, Index.RangeRow, Index.lent, Index.records, Index.all_runs, Judge.head_good}
use Rattle.meaning_rows.proofs.Laid.{length-records}
use Rattle.meaning_text.specs.{Form.Value, Read.fine, Read.unfit, Read.read_text, Texts.index_form, Texts.row_form, Texts.row_said}
use Rattle.meaning_text.proofs.Automaton.{going, feed, feed-one, feed-none, on-option, at_end, judged}
use Rattle.numbers.specs.Narrow.{clamp}
use Rattle.text_index.specs.{declared.Field.Field, declared.State.State, declared.Moved.Moved, Step.index_step, Step.GoodState}
use Rattle.text_index.proofs.Order.{place_part, state_part, Order, order-step, order_value}
use Rattle.text_index.proofs.Follow.{Said, nothing_said, told, closed, value, Reading, at, moved, step, accept, accept_state, start, stays, index-comes, some_same, none-some}
use Rattle.text_judge.specs.{declared.Tally.Tally, Tally.no_runs, Tally.runs_from, Tally.no_rows, Tally.rows_from, Tally.head_held}
use Rattle.text_judge.proofs.{Seen.tally_of, Seen.tells, Seen.shuts, Seen.start_is, Prefix.map-append, Prefix.row-placed}
use Rattle.text_rows.specs.{declared.Line.Line, Line.row_made, Line.line_from, Line.next_line, Line.line_at, Line.stored}
use Rattle.text_rows.proofs.Turn.{line-byte, line-ready, length-stored}

abbrev Rs : Type 0
Rs = List (Value row_form)

-- the rows of a value
abbrev rows_in : Value index_form → Rs
rows_in v = v.1.1.1

-- ---- what the rest of a text cannot change

fine-same : {A : Type 0} {a b : A} → fine a ≡ fine b → a ≡ b
fine-same e = cc

unfit-fine : {A X : Type 0} {a : A} {n : ℕ} → unfit n ≡ fine a → X
unfit-fine e = let z : ◌≡◌ {A = ℕ} 0 1 = cc in absurd (omega arith)

value-end : (s : State) (g : Said) (p : ℕ) (v : Value index_form) → at_end (accept_state s g) p ≡ fine v → value g ≡ v
value-end (State.In w k) g p v e = unfit-fine e
value-end (State.At q n) g p v e = unfit-fine e
value-end (State.Before t) g p v e = unfit-fine e
value-end State.Done g p v e = fine-same e

told-rows : (p : Field) (z : ℤ) (g : Said) → (told p z g).rows ≡ g.rows
told-rows Field.Window z g = refl
told-rows Field.Width z g = refl
told-rows Field.Windows z g = refl
told-rows Field.Low z g = refl
told-rows Field.Up z g = refl
told-rows Field.Left z g = refl
told-rows Field.Right z g = refl

-- rows are only added
record Grows (g n : Said) : Type 0 where
  more : Rs
  rows : n.rows ≡ g.rows ++ more

grows-as : {g : Said} {n m : Reading} → n ≡ m → Grows g n.said → Grows g m.said
grows-as e h = rw (← e) h

grows : (g : Said) (m : Moved) (n : Reading) → moved m g ≡ Some n → Grows g n.said
grows g (Moved.To s) n e = grows-as (some_same e) (record { more = []; rows = sym (append-nil _) })
grows g (Moved.Value s p z) n e = grows-as (some_same e) (record { more = []; rows = told-rows p z g ∙ sym (append-nil _) })
grows g (Moved.Closed s) n e = grows-as (some_same e) (record { more = (g.low, (g.up, g.runs)) ∷ []; rows = refl })
grows g Moved.Refuse n e = none-some e

-- the rows so far are the first of the text's
rows-begin : (l : List ℕ) (x : Reading) (p : ℕ) (v : Value index_form) → judged accept (feed step (going x p) l) ≡ fine v → (rest : Rs) × (rows_in v ≡ x.said.rows ++ rest)
unfolding feed accept step
rows-begin [] x p v e = ([], sym (ap rows_in (value-end x.state x.said p v e)) ∙ sym (append-nil _))
rows-begin (b ∷ l) x p v e =
    on-option _
    (λ n i.
    let r = rows-begin l n (suc p) v (ap (judged accept) (sym (feed-one step x n b l p i)) ∙ e) in
    let g = grows _ (index_step x.state b) n i in
    (g.more ++ r.0, r.1 ∙ ap (λ q. q ++ r.0) g.rows ∙ append_assoc x.said.rows g.more r.0))
    (λ i. unfit-fine (sym (ap (judged accept) (feed-none step x b l p i)) ∙ e))

-- behind the first row the head stays
abbrev SameHead : Said → Said → Type 0
SameHead g n = head_held (value g) ≡ head_held (value n)

told-head : (p : Field) (z : ℤ) (g : Said) → Order (place_part p) g → (g.rows ≡ [] → ⊥) → SameHead g (told p z g)
told-head Field.Window z g o h = absurd (h o.0)
told-head Field.Width z g o h = absurd (h o.0)
told-head Field.Windows z g o h = absurd (h o.0)
told-head Field.Low z g o h = refl
told-head Field.Up z g o h = refl
told-head Field.Left z g o h = refl
told-head Field.Right z g o h = refl

head_as : (g : Said) {n m : Reading} → n ≡ m → SameHead g n.said → SameHead g m.said
head_as g e h = h ∙ rw e

head-moved : (s : State) (b : ℕ) (g : Said) (m : Moved) (n : Reading) → index_step s b ≡ m → moved m g ≡ Some n → Order (state_part s) g → (g.rows ≡ [] → ⊥) → SameHead g n.said
head-moved s b g (Moved.To q) n i e o h = head_as g (some_same e) refl
head-moved s b g (Moved.Value q p z) n i e o h = head_as g (some_same e) (told-head p z g (order_value s b q p z g i o) h)
head-moved s b g (Moved.Closed q) n i e o h = head_as g (some_same e) refl
head-moved s b g Moved.Refuse n i e o h = none-some e

nonempty : (a b c : Rs) → c ≡ a ++ b → (a ≡ [] → ⊥) → c ≡ [] → ⊥
nonempty [] b c e h k = h refl
nonempty (x ∷ a) b c e h k = let q : 0 ≡ suc (length (a ++ b)) = ap length (sym k ∙ e) in omega arith

head-stays : (l : List ℕ) (x : Reading) (p : ℕ) (v : Value index_form) → judged accept (feed step (going x p) l) ≡ fine v → GoodState x.state → Order (state_part x.state) x.said → (x.said.rows ≡ [] → ⊥) → head_held (value x.said) ≡ head_held v
unfolding feed accept step
head-stays [] x p v e g o h = ap head_held (value-end x.state x.said p v e)
head-stays (b ∷ l) x p v e g o h =
    on-option _
    (λ n i.
    let r = grows x.said (index_step x.state b) n i in
    head-moved _ b _ _ n refl i o h
    ∙ head-stays l n (suc p) v (ap (judged accept) (sym (feed-one step x n b l p i)) ∙ e) (stays x b n g i) (order-step x b n g o i) (nonempty _ r.more _ r.rows h))
    (λ i. unfit-fine (sym (ap (judged accept) (feed-none step x b l p i)) ∙ e))

-- ---- one line

-- the row that was closed, where the line has one
record Closes (g n : Said) (row : Row) : Type 0 where
  before : Said
  rows : before.rows ≡ g.rows
  said : n ≡ closed before
  made : row ≡ row_made (tally_of before)

-- no row was left
record Ends (g n : Said) (v : Value index_form) (row : Row) : Type 0 where
  rows : n.rows ≡ g.rows
  all : rows_in v ≡ g.rows
  zeros : row ≡ zero_row

-- a line read from a place on: where it stands, by what has been said
record LineIs (s : State) (g : Said) (i : ℕ) (l : List ℕ) (v : Value index_form) (p : Line) : Type 0 where
  said : Said
  read : List ℕ
  rest : List ℕ
  tally : p.tally ≡ tally_of said
  order : Order (state_part p.state) said
  bytes : l ≡ read ++ rest
  place : p.at ≡ i + length read
  same : feed step (going (at s g) i) l ≡ feed step (going (at p.state said) p.at) rest
  row : Closes g said p.row ⊎ Ends g said v p.row

-- one byte before a line
line_before : (s n : State) (g h : Said) (i b : ℕ) (l : List ℕ) (v : Value index_form) (p : Line) → step (at s g) b ≡ Some (at n h) → h.rows ≡ g.rows → LineIs n h (suc i) l v p → LineIs s g i (b ∷ l) v p
line_before s n g h i b l v p e q r = record {
  said = r.said;
  read = b ∷ r.read;
  rest = r.rest;
  tally = r.tally;
  order = r.order;
  bytes = rw r.bytes;
  place = r.place ∙ omega arith;
  same = feed-one step _ _ b l i e ∙ r.same;
  row = before-row r.row;
}
  where
    before-row : Closes h r.said p.row ⊎ Ends h r.said v p.row → Closes g r.said p.row ⊎ Ends g r.said v p.row
    before-row (inl c) = inl (record { before = c.before; rows = c.rows ∙ q; said = c.said; made = c.made })
    before-row (inr d) = inr (record { rows = d.rows ∙ q; all = d.all ∙ q; zeros = d.zeros })

-- what a byte does to a line
line-move : (l : List ℕ) (v : Value index_form) → ((s : State) (g : Said) (i : ℕ) → GoodState s → Order (state_part s) g → judged accept (feed step (going (at s g) i) l) ≡ fine v → LineIs s g i l v (line_from s (tally_of g) i l))
    → (s : State) (g : Said) (i b : ℕ) (m : Moved) → index_step s b ≡ m → GoodState s → Order (state_part s) g → judged accept (feed step (going (at s g) i) (b ∷ l)) ≡ fine v → LineIs s g i (b ∷ l) v (line_from s (tally_of g) i (b ∷ l))
unfolding step
line-move l v on s g i b (Moved.To n) e h o j =
    let q = ap (λ m. moved m g) e in
    subst (LineIs s g i (b ∷ l) v) (sym (line-byte s (tally_of g) i b l (Moved.To n) e))
    (line_before s n g g i b l v (line_from n (tally_of g) (suc i) l) q refl
    (on n g (suc i) (stays (at s g) b (at n g) h q) (order-step (at s g) b (at n g) h o q) (ap (judged accept) (sym (feed-one step (at s g) (at n g) b l i q)) ∙ j)))
line-move l v on s g i b (Moved.Value n p z) e h o j =
    let k = told p z g in
    let q : step (at s g) b ≡ Some (at n k) = ap (λ m. moved m g) e in
    subst (LineIs s g i (b ∷ l) v) (ap (λ t. line_from n t (suc i) l) (tells p z g (order_value s b n p z g e o)) ∙ sym (line-byte s (tally_of g) i b l (Moved.Value n p z) e))
    (line_before s n g k i b l v (line_from n (tally_of k) (suc i) l) q (told-rows p z g)
    (on n k (suc i) (stays (at s g) b (at n k) h q) (order-step (at s g) b (at n k) h o q) (ap (judged accept) (sym (feed-one step (at s g) (at n k) b l i q)) ∙ j)))
line-move l v on s g i b (Moved.Closed n) e h o j =
    let k = closed g in
    let q : step (at s g) b ≡ Some (at n k) = ap (λ m. moved m g) e in
    subst (LineIs s g i (b ∷ l) v) (sym (line-byte s (tally_of g) i b l (Moved.Closed n) e))
    (record {
      said = k;
      read = b ∷ [];
      rest = l;
      tally = sym (shuts g);
      order = order-step (at s g) b (at n k) h o q;
      bytes = refl;
      place = omega arith;
      same = feed-one step (at s g) (at n k) b l i q;
      row = inl (record { before = g; rows = refl; said = refl; made = refl });
    })
line-move l v on s g i b Moved.Refuse e h o j = unfit-fine (sym (ap (judged accept) (feed-none step (at s g) b l i (ap (λ m. moved m g) e))) ∙ j)

line-one : (l : List ℕ) (v : Value index_form) (s : State) (g : Said) (i : ℕ) → GoodState s → Order (state_part s) g → judged accept (feed step (going (at s g) i) l) ≡ fine v → LineIs s g i l v (line_from s (tally_of g) i l)
unfolding line_from feed accept
line-one [] v s g i h o j = record {
  said = g;
  read = [];
  rest = [];
  tally = refl;
  order = o;
  bytes = refl;
  place = omega arith;
  same = refl;
  row = inr (record { rows = refl; all = sym (ap rows_in (value-end s g i v j)); zeros = refl });
}
line-one (b ∷ l) v s g i h o j = line-move l v (line-one l v) s g i b _ refl h o j

-- ---- lists

cons_same : {A : Type 0} {x y : A} {a b : List A} → x ∷ a ≡ y ∷ b → a ≡ b
cons_same e = cc

cancel : (a b c : Rs) → a ++ b ≡ a ++ c → b ≡ c
cancel [] b c e = e
cancel (x ∷ a) b c e = cancel a b c (cons_same e)

drop-tail : (l : Rs) (k : ℕ) (r : Value row_form) (rest : Rs) → drop k l ≡ r ∷ rest → drop (suc k) l ≡ rest
drop-tail [] zero r rest e = let z : 0 ≡ suc (length rest) = ap length e in absurd (omega arith)
drop-tail [] (suc k) r rest e = let z : 0 ≡ suc (length rest) = ap length e in absurd (omega arith)
drop-tail (x ∷ l) zero r rest e = cons_same e
drop-tail (x ∷ l) (suc k) r rest e = drop-tail l k r rest e

drop-none : (l : Rs) (k : ℕ) → drop k l ≡ [] → drop (suc k) l ≡ []
drop-none [] zero e = refl
drop-none [] (suc k) e = refl
drop-none (x ∷ l) zero e = let z : suc (length l) ≡ 0 = ap length e in absurd (omega arith)
drop-none (x ∷ l) (suc k) e = drop-none l k e

-- a row's record, behind the rows before it
record-at : (a : List RangeRow) (r : RangeRow) (b : List RangeRow) (k : ℕ) → get_or (records k (a ++ (r ∷ b))) (length a) zero_row ≡ record { low = r.low; up = r.up; first = k + length (all_runs a); runs = length r.runs }
unfolding records all_runs
record-at [] r b k = let e : k + 0 ≡ k = omega arith in rw e refl
record-at (x ∷ a) r b k =
    let e : k + length x.runs + length (all_runs a) ≡ k + length (x.runs ++ all_runs a) = omega (arith, length-append x.runs (all_runs a)) in
    record-at a r b _ ∙ rw e refl

-- zeros behind a list are what stands past its end
zeros-more : (n k : ℕ) → get_or (replicate n zero_row) k zero_row ≡ zero_row
zeros-more zero zero = refl
zeros-more zero (suc k) = refl
zeros-more (suc n) zero = refl
zeros-more (suc n) (suc k) = zeros-more n k

zeros-behind : (l : List Row) (n k : ℕ) → get_or (l ++ replicate n zero_row) k zero_row ≡ get_or l k zero_row
zeros-behind [] n zero = zeros-more n zero
zeros-behind [] n (suc k) = zeros-more n (suc k)
zeros-behind (x ∷ l) n zero = refl
zeros-behind (x ∷ l) n (suc k) = zeros-behind l n k

-- ---- line by line

module _ (t : List ℕ) (v : Value index_form) (readable : read_text index_form t ≡ fine v) where
  comes : judged accept (feed step (going start 0) t) ≡ fine v
  comes = sym (index-comes t) ∙ readable

  -- after k lines
  record Reached (k : ℕ) : Type 0 where
    said : Said
    tally : (line_at t k).tally ≡ tally_of said
    order : Order (state_part (line_at t k).state) said
    same : feed step (going start 0) t ≡ feed step (going (at (line_at t k).state said) (line_at t k).at) (drop (line_at t k).at t)
    rows : rows_in v ≡ said.rows ++ drop k (rows_in v)

  abbrev Next : (k : ℕ) → Reached k → Type 0
  Next k r = LineIs (line_at t k).state r.said (line_at t k).at (drop (line_at t k).at t) v (line_at t (suc k))

  next : (k : ℕ) (r : Reached k) → Next k r
  unfolding line_at next_line
  next k r =
      let p = line_at t k in
      subst (λ (u : Tally). LineIs p.state r.said p.at (drop p.at t) v (line_from p.state u p.at (drop p.at t))) (sym r.tally)
      (line-one (drop p.at t) v p.state r.said p.at (line-ready t k).good r.order (ap (judged accept) (sym r.same) ∙ comes))

  -- the bytes behind a line
  behind : (k : ℕ) (r : Reached k) (n : Next k r) → n.rest ≡ drop (line_at t (suc k)).at t
  behind k r n =
      sym (drop-append_seam n.read _) ∙ ap (drop (length n.read)) (sym n.bytes) ∙ drop-drop _ (line_at t k).at t ∙ ap (λ m. drop m t) (sym n.place)

  same_next : (k : ℕ) (r : Reached k) (n : Next k r) → feed step (going start 0) t ≡ feed step (going (at (line_at t (suc k)).state n.said) (line_at t (suc k)).at) (drop (line_at t (suc k)).at t)
  same_next k r n = r.same ∙ n.same ∙ ap (feed step _) (behind k r n)

  -- the row that a line closed is the next of the text's
  record Closed (k : ℕ) (r : Reached k) (g : Said) : Type 0 where
    rest : Rs
    left : drop k (rows_in v) ≡ (g.low, (g.up, g.runs)) ∷ rest
    head : head_held (value g) ≡ head_held v

  is-closed : (k : ℕ) (r : Reached k) (n : Next k r) (c : Closes r.said n.said (line_at t (suc k)).row) → Closed k r c.before
  is-closed k r n c =
      let g = c.before in
      let p = line_at t (suc k) in
      let j = ap (judged accept) (sym (same_next k r n)) ∙ comes in
      let b = rows-begin (drop p.at t) (at _ _) p.at v j in
      let a = ap (λ x. x.rows) c.said ∙ ap (λ q. q ++ ((g.low, (g.up, g.runs)) ∷ [])) c.rows in
      let e : rows_in v ≡ r.said.rows ++ ((g.low, (g.up, g.runs)) ∷ b.0) = b.1 ∙ ap (λ q. q ++ b.0) a ∙ append_assoc r.said.rows ((g.low, (g.up, g.runs)) ∷ []) b.0 in
      let some-row : n.said.rows ≡ [] → ⊥ = λ z. let q : length r.said.rows + 1 ≡ 0 = sym (length-append r.said.rows ((g.low, (g.up, g.runs)) ∷ [])) ∙ ap length (sym a ∙ z) in omega arith in
      record {
        rest = b.0;
        left = cancel r.said.rows (drop k (rows_in v)) ((g.low, (g.up, g.runs)) ∷ b.0) (sym r.rows ∙ e);
        head = ap (λ x. head_held (value x)) (sym c.said) ∙ head-stays (drop p.at t) (at p.state n.said) p.at v j (line-ready t (suc k)).good n.order some-row;
      }

  -- after the last row nothing is left
  none_left : (k : ℕ) (r : Reached k) (n : Next k r) → Ends r.said n.said v (line_at t (suc k)).row → drop k (rows_in v) ≡ []
  none_left k r n d = cancel r.said.rows _ [] (sym r.rows ∙ d.all ∙ sym (append-nil _))

  rows_next : (k : ℕ) (r : Reached k) (n : Next k r) → Closes r.said n.said (line_at t (suc k)).row ⊎ Ends r.said n.said v (line_at t (suc k)).row → rows_in v ≡ n.said.rows ++ drop (suc k) (rows_in v)
  rows_next k r n (inl c) =
      let g = c.before in
      let w = is-closed k r n c in
      let a = ap (λ x. x.rows) c.said ∙ ap (λ q. q ++ ((g.low, (g.up, g.runs)) ∷ [])) c.rows in
      r.rows ∙ ap (λ q. r.said.rows ++ q) w.left
      ∙ sym (ap (λ q. q ++ drop (suc k) (rows_in v)) a ∙ append_assoc r.said.rows ((g.low, (g.up, g.runs)) ∷ []) (drop (suc k) (rows_in v)) ∙ ap (λ q. r.said.rows ++ ((g.low, (g.up, g.runs)) ∷ q)) (drop-tail (rows_in v) k (g.low, (g.up, g.runs)) w.rest w.left))
  rows_next k r n (inr d) =
      d.all ∙ sym (ap (λ q. q ++ drop (suc k) (rows_in v)) d.rows ∙ ap (λ q. r.said.rows ++ q) (drop-none (rows_in v) k (none_left k r n d)) ∙ append-nil r.said.rows)

  reached : (k : ℕ) → Reached k
  unfolding line_at
  reached zero = record { said = nothing_said; tally = sym start_is; order = (refl, refl); same = refl; rows = refl }
  reached (suc k) =
      let r = reached k in
      let n = next k r in
      record { said = n.said; tally = n.tally; order = n.order; same = same_next k r n; rows = rows_next k r n n.row }

  -- ---- the records

  module _ (head : head_good (lent (head_held v) [] [] []) ≡ true) (good : (rows_from (head_held v) no_rows (rows_in v)).good ≡ true) where
    abbrev recs : List Row
    recs = records 0 (map row_said (rows_in v))

    -- a record by the head and the rows before
    abbrev made_by : Head → Rs → Value row_form → Row
    made_by h a r = record { low = clamp r.0; up = clamp r.1.0; first = min (rows_from h no_rows a).runs 4294967295; runs = min (runs_from h.windows no_runs r.1.1).count 4294967295 }

    made-is : (g : Said) → row_made (tally_of g) ≡ made_by (head_held (value g)) g.rows (g.low, (g.up, g.runs))
    unfolding row_made
    made-is g = refl

    made-right : (a : Rs) (r : Value row_form) (b : Rs) → rows_in v ≡ a ++ (r ∷ b) → made_by (head_held v) a r ≡ record { low = r.0; up = r.1.0; first = 0 + length (all_runs (map row_said a)); runs = length r.1.1 }
    made-right a r b e =
        let p = row-placed v head good a r b e in
        let f : min (rows_from (head_held v) no_rows a).runs 4294967295 ≡ 0 + length (all_runs (map row_said a)) = omega arith in
        let c : min (runs_from (head_held v).windows no_runs r.1.1).count 4294967295 ≡ length r.1.1 = omega arith in
        rw (p.low, p.up, f, c) refl

    by-line : (k : ℕ) (r : Reached k) (n : Next k r) → Closes r.said n.said (line_at t (suc k)).row ⊎ Ends r.said n.said v (line_at t (suc k)).row → (line_at t (suc k)).row ≡ get_or recs k zero_row
    by-line k r n (inl c) =
        let g = c.before in
        let w = is-closed k r n c in
        let ρ : Value row_form = (g.low, (g.up, g.runs)) in
        let a = r.said.rows in
        let e : rows_in v ≡ a ++ (ρ ∷ w.rest) = r.rows ∙ ap (λ q. a ++ q) w.left in
        let m : map row_said (rows_in v) ≡ map row_said a ++ (row_said ρ ∷ map row_said w.rest) = ap (map row_said) e ∙ map-append row_said a (ρ ∷ w.rest) in
        let long : length (map row_said a) ≡ k = omega (arith, length-map a row_said, ap length e, length-append a (ρ ∷ w.rest), ap length w.left, length-drop k (rows_in v)) in
        c.made ∙ made-is g ∙ ap (λ x. made_by x g.rows ρ) w.head ∙ ap (λ q. made_by (head_held v) q ρ) c.rows ∙ made-right a ρ w.rest e
        ∙ sym (record-at (map row_said a) (row_said ρ) (map row_said w.rest) 0) ∙ ap (λ q. get_or (records 0 (map row_said a ++ (row_said ρ ∷ map row_said w.rest))) q zero_row) long ∙ ap (λ l. get_or (records 0 l) k zero_row) (sym m)
    by-line k r n (inr d) =
        d.zeros ∙ sym (List·get_d-eq-default recs zero_row (omega (arith, length-records 0 (map row_said (rows_in v)), length-map (rows_in v) row_said, length-drop k (rows_in v), ap length (none_left k r n d))))

    -- row k of the text, and a record of zeros past the last
    pub row_at : (k : ℕ) → (line_at t (suc k)).row ≡ get_or recs k zero_row
    row_at k = let r = reached k in let n = next k r in by-line k r n n.row

    -- the records that are filled
    stored_at : (n k : ℕ) (rows : List Row) → k < n → n ≤ length rows → get_or (stored t n rows) k zero_row ≡ get_or recs k zero_row
    unfolding stored
    stored_at zero k rows h l = absurd (omega arith)
    stored_at (suc n) k rows h l = elim (dec_le (suc k) n) [
      | yes m ↦ get_or-set_other (stored t n rows) n k (line_at t (suc n)).row zero_row (λ e. omega (arith, e, m)) ∙ stored_at n k rows m (omega arith)
      | no f ↦ let e : k ≡ n = omega arith in rw e (get_or-set_same (stored t n rows) n (line_at t (suc n)).row zero_row (omega (arith, length-stored t n rows, l)) ∙ row_at n)
    ]

    -- the records behind those that are filled stay
    stored-behind : (n k : ℕ) (rows : List Row) → n ≤ k → get_or (stored t n rows) k zero_row ≡ get_or rows k zero_row
    unfolding stored
    stored-behind zero k rows h = refl
    stored-behind (suc n) k rows h = get_or-set_other (stored t n rows) n k (line_at t (suc n)).row zero_row (λ e. omega (arith, e)) ∙ stored-behind n k rows (omega arith)

    -- the records of the text are filled in, where those behind them were made records of zeros
    pub rows-filled : (n : ℕ) (rows : List Row) → n ≡ length recs → length recs ≤ length rows → stored t n (take n rows ++ replicate (length rows - n) zero_row) ≡ recs ++ replicate (length rows - length recs) zero_row
    rows-filled n rows e h =
        let m = length rows - length recs in
        let z = take n rows ++ replicate (length rows - n) zero_row in
        let long : length z ≡ length rows = omega (arith, length-append (take n rows) (replicate (length rows - n) zero_row), length-take n rows, length-replicate (length rows - n) zero_row, e, h) in
        ext_get_or zero_row (stored t n z) (recs ++ replicate m zero_row) (omega (arith, length-stored t n z, long, length-append recs (replicate m zero_row), length-replicate m zero_row, h))
        (λ k b. elim (dec_le (suc k) n) [
          | yes l ↦ stored_at n k z l (omega (arith, e, h)) ∙ sym (zeros-behind recs m k)
          | no f ↦
              stored-behind n k z (omega arith) ∙ zeros-behind (take n rows) (length rows - n) k ∙ List·get_d-eq-default (take n rows) zero_row (omega (arith, length-take n rows))
              ∙ sym (zeros-behind recs m k ∙ List·get_d-eq-default recs zero_row (omega (arith, e)))
        ])
