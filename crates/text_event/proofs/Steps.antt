-- The steps by which runs and the beginnings of rows are read, each by one byte, and what is put together of them (`body-told`, `plain-told`, `first-told`, `range-told`).
use Rattle.meaning_numbers.proofs.Prelude.{◌≡◌, refl, ℕ, zero, suc, ◌+◌, ◌*◌, ◌-◌, ◌/◌, ◌%◌, ◌<◌, ◌≤◌, ◌^◌, List, add-one, arith, lt-ltb, eq-eqb, ne_eqb, ℤ, pos, neg_ℤ, length, get_or, Some}
use Rattle.meaning_text.specs.Bytes.{bytes}
use Rattle.text_numbers.specs.{declared.Numeral.Numeral, Number.num_step, Number.whole}
use Rattle.text_numbers.proofs.Number.{within-yes}
use Rattle.text_index.specs.Step.{word, behind, turn_after, pick, reach, closes, word_step, turn_step, end_step, number_step, index_step}
use Rattle.text_index.specs.{declared.Word.Word, declared.Field.Field, declared.State.State, declared.Moved.Moved}
use Rattle.text_event.specs.Event.{Quiet, still, more, ValueAt, ClosedAt, RunAt, RowAt, in_run, at_runs, at_first, at_rows, in_range, DigitsAt, NumberAt, left_of, right_of, length_of, PlainAt, BodyAt, Blank, BlankAt, SignedAt, WordAt, Opens, Ends}
use Rattle.text_event.proofs.Words.{stands-byte}

-- the first digit, not 0
pub first-digit : (p : Field) (b : ℕ) → 49 ≤ b → b ≤ 57 → index_step (State.At p Numeral.Start) b ≡ Moved.To (State.At p (Numeral.Plus (b - 48)))
unfolding index_step number_step num_step
first-digit p b h k = rw (ne_eqb b 45 (λ e. omega (arith, h, e)), ne_eqb b 48 (λ e. omega (arith, h, e)), within-yes 49 57 b h k) refl

pub first-less : (p : Field) (b : ℕ) → 49 ≤ b → b ≤ 57 → index_step (State.At p Numeral.Sign) b ≡ Moved.To (State.At p (Numeral.Less (b - 48)))
unfolding index_step number_step num_step
first-less p b h k = rw (within-yes 49 57 b h k) refl

-- one more
pub next-digit : (p : Field) (m b : ℕ) → 48 ≤ b → b ≤ 57 → m < 100000000000000000 → index_step (State.At p (Numeral.Plus m)) b ≡ Moved.To (State.At p (Numeral.Plus (10 * m + (b - 48))))
unfolding index_step number_step num_step
next-digit p m b h k l = rw (within-yes 48 57 b h k, lt-ltb m 100000000000000000 l) refl

pub next-less : (p : Field) (m b : ℕ) → 48 ≤ b → b ≤ 57 → m < 100000000000000000 → index_step (State.At p (Numeral.Less m)) b ≡ Moved.To (State.At p (Numeral.Less (10 * m + (b - 48))))
unfolding index_step number_step num_step
next-less p m b h k l = rw (within-yes 48 57 b h k, lt-ltb m 100000000000000000 l) refl

sign : (p : Field) → index_step (State.At p Numeral.Start) 45 ≡ Moved.To (State.At p Numeral.Sign)
unfolding index_step number_step num_step
sign p = refl

pub run-space : index_step at_runs (get_or (bytes " (") 0 0) ≡ Moved.To (State.In Word.Run 1)
unfolding index_step turn_step pick reach word bytes behind
run-space = refl

pub run-bracket : index_step at_first (get_or (bytes "(") 0 0) ≡ Moved.To (State.At Field.Left Numeral.Start)
unfolding index_step word_step reach word bytes behind closes
run-bracket = refl

pub left-ends : (k : ℕ) → index_step (State.At Field.Left (Numeral.Plus k)) (get_or (bytes " ") 0 0) ≡ Moved.Value in_run Field.Left (pos k)
unfolding index_step number_step num_step whole end_step pick turn_after reach word bytes behind
left-ends k = refl

pub right-ends : (k : ℕ) → index_step (State.At Field.Right (Numeral.Plus k)) (get_or (bytes ")") 0 0) ≡ Moved.Value at_runs Field.Right (pos k)
unfolding index_step number_step num_step whole end_step pick turn_after reach word bytes behind
right-ends k = refl

low-blank : Blank Field.Low in_range
unfolding index_step number_step num_step whole end_step pick turn_after reach word bytes behind
low-blank = record { plus = λ k. refl; less = λ k. refl }

up-blank : Blank Field.Up at_first
unfolding index_step number_step num_step whole end_step pick turn_after reach word bytes behind
up-blank = record { plus = λ k. refl; less = λ k. refl }

row_first : index_step at_rows (get_or (bytes "(row ") 0 0) ≡ Moved.To (State.In Word.Row 1)
unfolding index_step turn_step pick reach word bytes behind
row_first = refl

row_more : (k : ℕ) → k < 4 → index_step (State.In Word.Row k) (get_or (bytes "(row ") k 0) ≡ Moved.To (State.In Word.Row (k + 1))
unfolding index_step word_step reach word bytes closes
row_more k h = rw (eq-eqb (get_or (bytes "(row ") k 0) (get_or (bytes "(row ") k 0) refl, lt-ltb (k + 1) 5 (omega (arith, h))) refl

row_last : index_step (State.In Word.Row 4) (get_or (bytes "(row ") 4 0) ≡ Moved.To (State.At Field.Low Numeral.Start)
unfolding index_step word_step reach word bytes behind closes
row_last = refl

end-first : index_step at_runs (get_or (bytes ")\n") 0 0) ≡ Moved.To (State.In Word.RowEnd 1)
unfolding index_step turn_step pick reach word bytes behind
end-first = refl

end-last : index_step (State.In Word.RowEnd 1) (get_or (bytes ")\n") 1 0) ≡ Moved.Closed at_rows
unfolding index_step word_step reach word bytes behind closes
end-last = refl

-- ---- a byte before others

quiet-before : {text : List ℕ} {i : ℕ} {s m n : State} {j : ℕ} → i < length text → index_step s (get_or text i 0) ≡ Moved.To m → Quiet text m (i + 1) n j → Quiet text s i n j
quiet-before h e still = more still h e
quiet-before h e (more q k f) = more (quiet-before h e q) k f

value_before : {text : List ℕ} {s m n : State} {p : Field} {z : ℤ} {i j : ℕ} → i < length text → index_step s (get_or text i 0) ≡ Moved.To m → ValueAt text m (i + 1) n p z j → ValueAt text s i n p z j
value_before h e v = record { last = v.last; place = v.place; quiet = quiet-before h e v.quiet; inside = v.inside; ends = v.ends; next = v.next }

-- ---- numbers

pub still-here : {text : List ℕ} {s : State} {i : ℕ} → Quiet text s i s (i + 0)
still-here {text} {s} {i} = let e : i + 0 ≡ i = omega arith in rw e still

pub more-here : {text : List ℕ} {s n m : State} {i : ℕ} (k : ℕ) → Quiet text s i n (i + k) → i + k < length text → index_step n (get_or text (i + k) 0) ≡ Moved.To m → Quiet text s i m (i + (k + 1))
more-here {text} {s} {n} {m} {i} k q h e = let z : i + (k + 1) ≡ i + k + 1 = omega arith in rw z (more q h e)

-- above all numbers of k digits behind a first one
abbrev pub top : ℕ → ℕ
top zero = 10
top (suc k) = 10 * top k

pub top-more : (k : ℕ) → top (k + 1) ≡ 10 * top k
top-more k = rw (add-one k) refl

top-add : (j k : ℕ) → top k ≤ top (j + k)
top-add zero k = let e : 0 + k ≡ k = omega arith in rw e (omega arith)
top-add (suc j) k = let e : suc j + k ≡ suc (j + k) = omega arith in rw e (omega (arith, top-add j k))

pub top-most : (k : ℕ) → k ≤ 7 → top k ≤ 10 ^ 8
top-most k h = let e : 7 - k + k ≡ 7 = omega arith in let l : top k ≤ top 7 = rw e at (top-add (7 - k) k) in omega (arith, l)

pub digits-told : (text : List ℕ) (i first m k : ℕ) → m < top k → k ≤ 7 → ((p : Field) → Quiet text (State.At p (Numeral.Plus first)) i (State.At p (Numeral.Plus m)) (i + k)) → ((p : Field) → Quiet text (State.At p (Numeral.Less first)) i (State.At p (Numeral.Less m)) (i + k)) → DigitsAt text i first (16 * m + k)
digits-told text i first m k h l plus less =
    let a : (16 * m + k) / 16 ≡ m = omega arith in
    let b : (16 * m + k) % 16 ≡ k = omega arith in
    record { small = omega (arith, a, h, top-most k l); short = omega (arith, b, l); plus = λ p. rw (a, b) (plus p); less = λ p. rw (a, b) (less p) }

pub number-told : (text : List ℕ) (i b q : ℕ) → i < length text → b ≡ get_or text i 0 → 49 ≤ b → b ≤ 57 → DigitsAt text (i + 1) (b - 48) q → NumberAt text i (q + 1)
number-told text i b q l e h k d =
    let x : (q + 1) / 16 ≡ q / 16 = omega arith in
    let y : (q + 1) % 16 ≡ q % 16 + 1 = omega arith in
    let z : i + (q % 16 + 1) ≡ i + 1 + q % 16 = omega arith in
    record {
      small = omega (arith, x);
      short = omega (arith, y);
      plus = λ p. rw (x, y, z) (quiet-before l (rw (← e) (first-digit p b h k)) (d.plus p));
      less = λ p. rw (x, y, z) (quiet-before l (rw (← e) (first-less p b h k)) (d.less p));
    }

-- ---- runs

pub body-told : (text : List ℕ) (i a b : ℕ) → NumberAt text i a → WordAt text (i + a % 16) (bytes " ") → NumberAt text (i + a % 16 + 1) b → WordAt text (i + (a % 16 + b % 16 + 1)) (bytes ")")
    → BodyAt text i (((a / 16) * 134217728 + b / 16) * 32 + (a % 16 + b % 16 + 1 + 1))
unfolding bytes
body-told text i a b x e y f =
    let q = ((a / 16) * 134217728 + b / 16) * 32 + (a % 16 + b % 16 + 1 + 1) in
    let l : left_of q ≡ a / 16 = omega arith in
    let r : right_of q ≡ b / 16 = omega arith in
    let n : length_of q ≡ a % 16 + b % 16 + 1 + 1 = omega arith in
    let c = stands-byte e 0 (i + a % 16) (omega arith) (omega arith) in
    let d = stands-byte f 0 (i + a % 16 + 1 + b % 16) (omega arith) (omega arith) in
    let v : i + (a % 16 + b % 16 + 1 + 1) ≡ i + a % 16 + 1 + b % 16 + 1 = omega arith in
    let w : RunAt text (State.At Field.Left Numeral.Start) i (pos (a / 16)) (pos (b / 16)) (i + a % 16 + 1 + b % 16 + 1) = record {
      middle = i + a % 16 + 1;
      left = record { last = State.At Field.Left (Numeral.Plus (a / 16)); place = i + a % 16; quiet = x.plus Field.Left; inside = c.0; ends = rw c.1 (left-ends (a / 16)); next = refl };
      right = record { last = State.At Field.Right (Numeral.Plus (b / 16)); place = i + a % 16 + 1 + b % 16; quiet = y.plus Field.Right; inside = d.0; ends = rw d.1 (right-ends (b / 16)); next = refl };
    } in
    record { plain = record { small = omega arith; short = omega (arith, n); run = rw (l, r, n, v) w }; least = omega (arith, n); tiny = omega arith }

-- a byte in front of a run
run-before : (text : List ℕ) (s m : State) (i : ℕ) (l r : ℤ) (j : ℕ) → i < length text → index_step s (get_or text i 0) ≡ Moved.To m → RunAt text m (i + 1) l r j → RunAt text s i l r j
run-before text s m i l r j h e v = record { middle = v.middle; left = value_before h e v.left; right = v.right }

pub first-told : (text : List ℕ) (i q : ℕ) → WordAt text i (bytes "(") → BodyAt text (i + 1) q → PlainAt text at_first i (q + 1)
unfolding bytes
first-told text i q e b =
    let c = stands-byte e 0 i (omega arith) (omega arith) in
    let l : left_of (q + 1) ≡ left_of q = omega arith in
    let r : right_of (q + 1) ≡ right_of q = omega arith in
    let n : length_of (q + 1) ≡ length_of q + 1 = omega arith in
    let z : i + (length_of q + 1) ≡ i + 1 + length_of q = omega arith in
    record { small = omega arith; short = omega (arith, n); run = rw (l, r, n, z) (run-before text at_first (State.At Field.Left Numeral.Start) i _ _ _ c.0 (rw c.1 run-bracket) b.plain.run) }

pub plain-told : (text : List ℕ) (i q : ℕ) → WordAt text i (bytes " (") → BodyAt text (i + 2) q → PlainAt text at_runs i (q + 2)
unfolding bytes
plain-told text i q e b =
    let c = stands-byte e 0 i (omega arith) (omega arith) in
    let d = stands-byte e 1 (i + 1) (omega arith) (omega arith) in
    let l : left_of (q + 2) ≡ left_of q = omega arith in
    let r : right_of (q + 2) ≡ right_of q = omega arith in
    let n : length_of (q + 2) ≡ length_of q + 2 = omega arith in
    let z : i + (length_of q + 2) ≡ i + 1 + 1 + length_of q = omega arith in
    let y : i + 2 ≡ i + 1 + 1 = omega arith in
    let v : RunAt text (State.At Field.Left Numeral.Start) (i + 1 + 1) (pos (left_of q)) (pos (right_of q)) (i + 1 + 1 + length_of q) = rw y at b.plain.run in
    record { small = omega arith; short = omega (arith, n); run = rw (l, r, n, z) (run-before text at_runs at_first i _ _ _ c.0 (rw c.1 run-space) (run-before text at_first (State.At Field.Left Numeral.Start) (i + 1) _ _ _ d.0 (rw d.1 run-bracket) v)) }

-- ---- the beginnings of rows

pub plus-told : (text : List ℕ) (i q : ℕ) → BlankAt text i q → SignedAt text i (Some (pos (q / 16), i + q % 16 + 1))
unfolding bytes
plus-told text i q x =
    let c = stands-byte x.blank 0 (i + q % 16) (omega arith) (omega arith) in
    (omega arith, λ p n b. record { last = State.At p (Numeral.Plus (q / 16)); place = i + q % 16; quiet = x.number.plus p; inside = c.0; ends = rw c.1 (b.plus (q / 16)); next = refl })

pub less-told : (text : List ℕ) (i q : ℕ) → i < length text → get_or text i 0 ≡ 45 → BlankAt text (i + 1) q → SignedAt text i (Some (neg_ℤ (pos (q / 16)), i + 1 + q % 16 + 1))
unfolding bytes
less-told text i q h e x =
    let c = stands-byte x.blank 0 (i + 1 + q % 16) (omega arith) (omega arith) in (
      omega arith,
      λ p n b. value_before h (rw e (sign p))
          (record { last = State.At p (Numeral.Less (q / 16)); place = i + 1 + q % 16; quiet = x.number.less p; inside = c.0; ends = rw c.1 (b.less (q / 16)); next = refl }),
    )

pub range-told : (text : List ℕ) (i : ℕ) (low up : ℤ) (j k : ℕ) → Opens text i → SignedAt text (i + 5) (Some (low, j)) → SignedAt text j (Some (up, k)) → RowAt text i low up k
unfolding bytes
range-told text i low up j k o x y =
    let z : i + 5 ≡ i + 1 + 1 + 1 + 1 + 1 = omega arith in
    let a = stands-byte o.word 0 i (omega arith) (omega arith) in
    let b = stands-byte o.word 1 (i + 1) (omega arith) (omega arith) in
    let c = stands-byte o.word 2 (i + 1 + 1) (omega arith) (omega arith) in
    let d = stands-byte o.word 3 (i + 1 + 1 + 1) (omega arith) (omega arith) in
    let e = stands-byte o.word 4 (i + 1 + 1 + 1 + 1) (omega arith) (omega arith) in
    let v : ValueAt text (State.At Field.Low Numeral.Start) (i + 1 + 1 + 1 + 1 + 1) in_range Field.Low low j = rw z at (x.1 Field.Low in_range low-blank) in
    record {
      middle = j;
      lower =
          value_before {m = State.In Word.Row 1} a.0 (rw a.1 row_first)
          (value_before {m = State.In Word.Row 2} b.0 (rw b.1 (row_more 1 (omega arith)))
          (value_before {m = State.In Word.Row 3} c.0 (rw c.1 (row_more 2 (omega arith)))
          (value_before {m = State.In Word.Row 4} d.0 (rw d.1 (row_more 3 (omega arith)))
          (value_before e.0 (rw e.1 row_last) v))));
      upper = y.1 Field.Up at_first up-blank;
    }

-- a row's end
pub ends-told : (text : List ℕ) (i : ℕ) → Ends text i → ClosedAt text at_runs i at_rows (i + 2)
unfolding bytes
ends-told text i x =
    let a = stands-byte x 0 i (omega arith) (omega arith) in
    let b = stands-byte x 1 (i + 1) (omega arith) (omega arith) in
    record { last = State.In Word.RowEnd 1; place = i + 1; quiet = more {m = State.In Word.RowEnd 1} still a.0 (rw a.1 end-first); inside = b.0; ends = rw b.1 end-last; next = omega arith }
