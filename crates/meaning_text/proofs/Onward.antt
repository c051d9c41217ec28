-- Reading on: a form read, and then what is left of the text by a function of the value. So every place inside a form has its own reader for the rest, and a byte takes one such reader to the next: this is what an automaton follows (`Automaton`).
use Prim.Native.String.{String}
use Rattle.meaning_numbers.proofs.Prelude.{◌≡◌, refl, ap, ◌∙◌, fun_ext, List, [], ◌∷◌, ◌++◌, Bool, true, false, ℕ, zero, suc, ◌<◌, ◌≤◌, arith, eqb, length, get_or, drop, drop_of_length-le, length-append, drop-cons}
use Rattle.meaning_text.specs.Form.{Form, one_of, lead, trail, both, many, Value, spell, read_word, then_read, word_starts, starts, read_one, read_many, read}
use Rattle.meaning_text.specs.{Bytes.bytes, Number.Read, Number.got, Number.bad}
use Rattle.meaning_text.proofs.{Reading.on-flag, Reading.Begun, Reading.begun, Reading.Taken, Form.decided, Form.the_form, Form.form-read}

-- a reader of what is left of a text
abbrev pub Rest : Type 0 → Type 0
Rest A = List ℕ → Read A

-- the word, and then on from there
unfoldable pub word_then : {A : Type 0} → List ℕ → Rest A → Rest A
word_then [] k t = k t
word_then (c ∷ w) k [] = bad []
word_then (c ∷ w) k (b ∷ t) = elim (eqb b c) [ true ↦ word_then w k t | false ↦ bad (b ∷ t) ]

-- the form, and then on from there
unfoldable pub read_then : {A : Type 0} (f : Form) → (Value f → Rest A) → Rest A
read_then f k t = then_read (read f t) k

then-then : {A B C : Type 0} (x : Read A) (f : A → List ℕ → Read B) (g : B → List ℕ → Read C) → then_read (then_read x f) g ≡ then_read x (λ a u. then_read (f a u) g)
unfolding then_read
then-then (got a u) f g = refl
then-then (bad u) f g = refl

word_on : {A B : Type 0} (w : List ℕ) (a : A) (k : A → Rest B) (t : List ℕ) → then_read (read_word w a t) k ≡ word_then w (k a) t
unfolding read_word then_read word_then
word_on [] a k t = refl
word_on (c ∷ w) a k [] = refl
word_on (c ∷ w) a k (b ∷ t) = on-flag (eqb b c) (λ e. rw (e, read_word, word_then) (word_on w a k t)) (λ e. rw (e, read_word, word_then))

-- a word in two parts
pub word-both : {A : Type 0} (v w : List ℕ) (k : Rest A) → word_then v (word_then w k) ≡ word_then (v ++ w) k
unfolding word_then
word-both v w k = fun_ext (λ t. parts v t)
  where
    parts : (v t : List ℕ) → word_then v (word_then w k) t ≡ word_then (v ++ w) k t
    parts [] t = refl
    parts (c ∷ v) [] = refl
    parts (c ∷ v) (b ∷ t) = on-flag (eqb b c) (λ e. rw (e, word_then) (parts v t)) (λ e. rw (e, word_then))

-- a form by itself
pub read-alone : (f : Form) (t : List ℕ) → read f t ≡ read_then f (λ v u. got v u) t
unfolding read_then then_read
read-alone f t = alone (read f t)
  where
    alone : {A : Type 0} (x : Read A) → x ≡ then_read x (λ v u. got v u)
    alone (got v u) = refl
    alone (bad u) = refl

module _ {A : Type 0} where
  pub lead-then : (w : String) (f : Form) (k : Value f → Rest A) → read_then (lead w f) k ≡ word_then (bytes w) (read_then f k)
  unfolding read read_then
  lead-then w f k = fun_ext (λ t. then-then _ (λ _ u. read f u) k ∙ word_on (bytes w) true (λ _. read_then f k) t)

  pub trail-then : (f : Form) (w : String) (k : Value f → Rest A) → read_then (trail f w) k ≡ read_then f (λ x. word_then (bytes w) (k x))
  unfolding read read_then
  trail-then f w k = fun_ext (λ t. then-then (read f t) (λ x u. read_word (bytes w) x u) k ∙ ap (then_read (read f t)) (fun_ext (λ x. fun_ext (λ u. word_on (bytes w) x k u))))

  pub both-then : (f g : Form) (k : Value (both f g) → Rest A) → read_then (both f g) k ≡ read_then f (λ x. read_then g (λ y. k (x, y)))
  unfolding read read_then then_read
  both-then f g k = fun_ext (λ t. then-then (read f t) _ k ∙ ap (then_read (read f t)) (fun_ext (λ x. fun_ext (λ u. then-then (read g u) (λ y v. got (x, y) v) k))))

  -- one of two words, by the next byte
  pub one_then : (v w : String) (k : Bool → Rest A) (b : ℕ) (t : List ℕ) → read_then (one_of v w) k (b ∷ t) ≡ elim (word_starts v b) [ true ↦ word_then (bytes v) (k true) (b ∷ t) | false ↦ word_then (bytes w) (k false) (b ∷ t) ]
  unfolding read read_then read_one
  one_then v w k b t =
      on-flag (word_starts v b)
      (λ e. rw (e, read_one) (word_on (bytes v) true k (b ∷ t)))
      (λ e. rw (e, read_one) (word_on (bytes w) false k (b ∷ t)))

  pub one-ends : (v w : String) (k : Bool → Rest A) → read_then (one_of v w) k [] ≡ bad []
  unfolding read read_then read_one then_read
  one-ends v w k = refl

-- ---- a form many times

then_same : {A B : Type 0} (x : Read A) (f g : A → List ℕ → Read B) → ((a : A) (u : List ℕ) → x ≡ got a u → f a u ≡ g a u) → then_read x f ≡ then_read x g
unfolding then_read
then_same (got a u) f g h = h a u refl
then_same (bad u) f g h = refl

module _ (f : Form) (d : decided f ≡ true) (first : (v : Value f) → Begun (starts f) (spell f v)) where
  abbrev all : ℕ → Rest (List (Value f))
  all = read_many (starts f) (read f)

  shorter : (t u : List ℕ) (a : Value f) → read f t ≡ got a u → length u < length t
  shorter t u a e =
      let k : Taken (the_form f) t a u = rw e at (form-read f d t) in
      omega (arith, begun-long (first a), simp length-append at (ap length k.parts))
    where
      begun-long : {p : ℕ → Bool} {s : List ℕ} → Begun p s → 0 < length s
      begun-long (begun e) = omega arith

  -- the bound is enough
  enough : (k j : ℕ) (t : List ℕ) → length t ≤ k → length t ≤ j → all k t ≡ all j t
  unfolding read_many
  enough zero zero t h g = refl
  enough zero (suc j) [] h g = refl
  enough zero (suc j) (b ∷ t) h g = absurd (omega arith)
  enough (suc k) zero [] h g = refl
  enough (suc k) zero (b ∷ t) h g = absurd (omega arith)
  enough (suc k) (suc j) [] h g = refl
  enough (suc k) (suc j) (b ∷ t) h g =
      on-flag (starts f b)
      (λ e. rw (e, read_many) (then_same _ _ _ (λ a u o. let l = shorter (b ∷ t) u a o in rw (enough k j u (omega arith) (omega arith)))))
      (λ e. rw (e, read_many))

  module _ {A : Type 0} (k : List (Value f) → Rest A) where
    -- one more, where the next byte starts one
    many_more : (b : ℕ) (t : List ℕ) → starts f b ≡ true → read_then (many f) k (b ∷ t) ≡ read_then f (λ x. read_then (many f) (λ l. k (x ∷ l))) (b ∷ t)
    unfolding read read_then read_many then_read
    many_more b t e =
        rw (e, read_many)
        (then-then (read f (b ∷ t)) _ k
        ∙ then_same (read f (b ∷ t)) _ _ (λ a u o. let l = shorter (b ∷ t) u a o in then-then (all (length t) u) _ k ∙ rw (enough (length t) (length u) u (omega arith) (omega arith))))

    -- and no more
    many-none : (b : ℕ) (t : List ℕ) → starts f b ≡ false → read_then (many f) k (b ∷ t) ≡ k [] (b ∷ t)
    unfolding read read_then read_many then_read
    many-none b t e = rw (e, read_many)

    pub many-then : (b : ℕ) (t : List ℕ) → read_then (many f) k (b ∷ t) ≡ elim (starts f b) [ true ↦ read_then f (λ x. read_then (many f) (λ l. k (x ∷ l))) (b ∷ t) | false ↦ k [] (b ∷ t) ]
    many-then b t = on-flag (starts f b) (λ e. rw e (many_more b t e)) (λ e. rw e (many-none b t e))

    pub many-ends : read_then (many f) k [] ≡ k [] []
    unfolding read read_then read_many then_read
    many-ends = refl

-- ---- a word, from its k-th byte on

module _ {A : Type 0} (w : List ℕ) (r : Rest A) (k : ℕ) where
  pub word_over : length w ≤ k → word_then (drop k w) r ≡ r
  unfolding word_then
  word_over h = rw (drop_of_length-le w h)

  module _ (h : k < length w) where
    pub word_next : (b : ℕ) (t : List ℕ) → eqb b (get_or w k 0) ≡ true → word_then (drop k w) r (b ∷ t) ≡ word_then (drop (suc k) w) r t
    unfolding word_then
    word_next b t e = rw (drop-cons w k 0 h, e, word_then)

    pub word-off : (b : ℕ) (t : List ℕ) → eqb b (get_or w k 0) ≡ false → word_then (drop k w) r (b ∷ t) ≡ bad (b ∷ t)
    unfolding word_then
    word-off b t e = rw (drop-cons w k 0 h, e, word_then)

    pub word-short : word_then (drop k w) r [] ≡ bad []
    unfolding word_then
    word-short = rw (drop-cons w k 0 h)
