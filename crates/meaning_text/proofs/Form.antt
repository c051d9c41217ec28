-- For every form whose next byte decides (`decided`): what is spelled is read back where nothing follows that could go on, nothing else is read, and a refusal comes behind the longest beginning.
-- By induction on the form; each is put together of readers (`Reading`).
use Prim.Native.Char.{code}
use Prim.Native.String.{String, [] as empty, ◌∷◌ as ◌before◌}
use Rattle.meaning_numbers.specs.Place.{numbers_from}
use Rattle.meaning_numbers.proofs.Member.{every}
use Rattle.meaning_numbers.proofs.Prelude.{◌≡◌, refl, sym, ◌∙◌, List, [], ◌∷◌, ◌++◌, append_assoc, Bool, true, false, not, ◌&&◌, ◌||◌, or-true, ℕ, zero, suc, ◌+◌, ◌<◌, ◌≤◌, arith, eqb, ℤ, pos, negsuc, eqb-true, eqb-false, eq-eqb, not-true}
use Rattle.meaning_text.specs.Form.{Form, number, one_of, lead, trail, both, many, Value, spell_one, spell_many, spell, end, Spellable, read_word, then_read, word_starts, starts, read_one, read}
use Rattle.meaning_text.specs.{Bytes.bytes, Number.spellℤ, Number.Read, Number.got, Number.bad, Number.is_digit, Read.Viable}
use Rattle.meaning_text.proofs.Number.{leading, is-digit, digit-is, read-spelled, number_read}
use Rattle.meaning_text.proofs.Reading.{on-flag, false-true, and-true, like, NotNext, Begun, begun, begun-before, begun-as, begun-not, Reader, Taken, Refused, Outcome, refused-here, outcome-as, word_back, word_read, both_read, many_read, many-back}

-- ---- where the next byte decides

-- the word has a byte
unfoldable pub filled : String → Bool
filled empty = false
filled (c before w) = true

-- the word's first byte does not pass the test
unfoldable pub clear_word : (ℕ → Bool) → String → Bool
clear_word p empty = true
clear_word p (c before w) = not (p (code c))

-- no byte that starts the form passes the test
unfoldable pub clear : (ℕ → Bool) → Form → Bool
clear p number = not (p 45) && every (λ b. not (p b)) (numbers_from 48 10)
clear p (one_of v w) = clear_word p v && clear_word p w
clear p (lead w f) = clear_word p w
clear p (trail f w) = clear p f
clear p (both f g) = clear p f
clear p (many f) = clear p f

-- a byte that may go on a text of the form
unfoldable pub follows : Form → ℕ → Bool
follows number b = is_digit b
follows (one_of v w) b = false
follows (lead w f) b = follows f b
follows (trail f w) b = false
follows (both f g) b = follows f b || follows g b
follows (many f) b = starts f b || follows f b

-- each text of the form has a first byte, one that `starts` tells
unfoldable pub firm : Form → Bool
firm number = true
firm (one_of v w) = true
firm (lead w f) = true
firm (trail f w) = firm f
firm (both f g) = firm f
firm (many f) = false

-- the first byte, if any, is one that `starts` tells
unfoldable pub opens : Form → Bool
opens number = true
opens (one_of v w) = true
opens (lead w f) = true
opens (trail f w) = firm f
opens (both f g) = firm f
opens (many f) = true

-- no byte that starts what comes next could go on what came before
unfoldable pub decided : Form → Bool
decided number = true
decided (one_of v w) = filled v && (filled w && clear_word (word_starts v) w)
decided (lead w f) = filled w && decided f
decided (trail f w) = decided f && (filled w && clear_word (follows f) w)
decided (both f g) = decided f && (decided g && (opens g && clear (follows f) g))
decided (many f) = decided f && (firm f && clear (follows f) f)

-- ---- what the tests say

or_left : (a b : Bool) → a || b ≡ false → a ≡ false
or_left true b e = e
or_left false b e = refl

or_right : (a b : Bool) → a || b ≡ false → b ≡ false
or_right true b e = false-true (sym e)
or_right false b e = e

on_or : (a b : Bool) {A : Type 0} → a || b ≡ true → (a ≡ true → A) → (b ≡ true → A) → A
on_or true b e f g = f refl
on_or false b e f g = g e

module _ (p : ℕ → Bool) where
  clear-word : (w : String) (b : ℕ) → clear_word p w ≡ true → word_starts w b ≡ true → p b ≡ false
  unfolding clear_word word_starts
  clear-word empty b c e = false-true e
  clear-word (c before w) b h e = rw (eqb-true b _ e) (not-true _ h)

  clear-numbers : (k n b : ℕ) → every (λ b. not (p b)) (numbers_from k n) ≡ true → k ≤ b → b < k + n → p b ≡ false
  unfolding every numbers_from
  clear-numbers k zero b e h g = absurd (omega arith)
  clear-numbers k (suc n) b e h g =
      let s = and-true _ _ e in
      on-flag _
      (λ t. rw (eqb-true b k t) (not-true (p k) s.0))
      (λ t. clear-numbers (suc k) n b s.1 (omega (arith, eqb-false b k t)) (omega arith))

  clear_first : (f : Form) (b : ℕ) → clear p f ≡ true → starts f b ≡ true → p b ≡ false
  unfolding clear starts
  clear_first number b c e =
      let s = and-true _ _ c in
      on_or _ (is_digit b) e
      (λ t. rw (eqb-true b 45 t) (not-true (p 45) s.0))
      (λ t. let d = is-digit b t in clear-numbers 48 10 b s.1 d.0 (omega arith))
  clear_first (one_of v w) b c e =
      let s = and-true _ _ c in
      on_or _ _ e (clear-word v b s.0) (clear-word w b s.1)
  clear_first (lead w f) b c e = clear-word w b c e
  clear_first (trail f w) b c e = clear_first f b c e
  clear_first (both f g) b c e = clear_first f b c e
  clear_first (many f) b c e = clear_first f b c e

-- what `decided` says of a form's parts
one-parts : (v w : String) → decided (one_of v w) ≡ true → (filled v ≡ true) × (filled w ≡ true) × (clear_word (word_starts v) w ≡ true)
unfolding decided
one-parts v w d = let s = and-true _ _ d in let r = and-true _ _ s.1 in (s.0, r.0, r.1)

lead-parts : (w : String) (f : Form) → decided (lead w f) ≡ true → (filled w ≡ true) × (decided f ≡ true)
unfolding decided
lead-parts w f d = and-true _ _ d

trail-parts : (f : Form) (w : String) → decided (trail f w) ≡ true → (decided f ≡ true) × (filled w ≡ true) × (clear_word (follows f) w ≡ true)
unfolding decided
trail-parts f w d = let s = and-true _ _ d in let r = and-true _ _ s.1 in (s.0, r.0, r.1)

both-parts : (f g : Form) → decided (both f g) ≡ true → (decided f ≡ true) × (decided g ≡ true) × (opens g ≡ true) × (clear (follows f) g ≡ true)
unfolding decided
both-parts f g d = let s = and-true _ _ d in let r = and-true _ _ s.1 in let q = and-true _ _ r.1 in (s.0, r.0, q.0, q.1)

many-parts : (f : Form) → decided (many f) ≡ true → (decided f ≡ true) × (firm f ≡ true) × (clear (follows f) f ≡ true)
unfolding decided
many-parts f d = let s = and-true _ _ d in let r = and-true _ _ s.1 in (s.0, r.0, r.1)

-- ---- first bytes

word-begun : (w : String) → filled w ≡ true → Begun (word_starts w) (bytes w)
unfolding filled word_starts bytes
word-begun empty e = false-true e
word-begun (c before w) e = begun (eq-eqb (code c) _ refl)

number-begun : (z : ℤ) → Begun (starts number) (spellℤ z)
unfolding starts spellℤ
number-begun (pos n) = let l = leading n in rw l.spelled (begun {b = 48 + l.digit} (rw (digit-is _ l.small) (or-true (eqb (48 + l.digit) 45))))
number-begun (negsuc n) = begun refl

firm-begun : (f : Form) → decided f ≡ true → firm f ≡ true → (v : Value f) → Begun (starts f) (spell f v)
unfolding firm starts spell spell_one
firm-begun number d e z = number-begun z
firm-begun (one_of v w) d e true = begun-as (λ b h. rw h) (word-begun v (one-parts v w d).0)
firm-begun (one_of v w) d e false = begun-as (λ b h. rw h (or-true (word_starts v b))) (word-begun w (one-parts v w d).1)
firm-begun (lead w f) d e x = begun-before (spell f x) (word-begun w (lead-parts w f d).0)
firm-begun (trail f w) d e x = begun-before (bytes w) (firm-begun f (trail-parts f w d).0 e x)
firm-begun (both f g) d e x = begun-before _ (firm-begun f (both-parts f g d).0 e x.0)
firm-begun (many f) d e x = false-true e

firm-not : (p : ℕ → Bool) (f : Form) → decided f ≡ true → firm f ≡ true → clear p f ≡ true → (v : Value f) (t : List ℕ) → NotNext p (spell f v ++ t)
firm-not p f d e c v t = begun-not (λ b. clear_first p f b c) (begun-before t (firm-begun f d e v))

-- what a form opens with could not go on what came before
next-not : (p : ℕ → Bool) (f : Form) → decided f ≡ true → opens f ≡ true → clear p f ≡ true → (v : Value f) (t : List ℕ) → NotNext p t → NotNext p (spell f v ++ t)
unfolding opens firm clear spell spell_many
next-not p number d e c v t h = firm-not p number d refl c v t
next-not p (one_of v w) d e c x t h = firm-not p (one_of v w) d refl c x t
next-not p (lead w f) d e c x t h = firm-not p (lead w f) d refl c x t
next-not p (trail f w) d e c x t h = firm-not p (trail f w) d e c x t
next-not p (both f g) d e c x t h = firm-not p (both f g) d e c x t
next-not p (many f) d e c [] t h = h
next-not p (many f) d e c (x ∷ l) t h = let s = many-parts f d in rw append_assoc (firm-not p f s.0 s.1 c x _)

-- ---- what reading comes to

-- each form says something
some-value : (f : Form) → (v : Value f) × Spellable f v
some-value number = (pos 0, omega arith)
some-value (one_of v w) = (true, tt)
some-value (lead w f) = some-value f
some-value (trail f w) = some-value f
some-value (both f g) = let x = some-value f in let y = some-value g in ((x.0, y.0), (x.1, y.1))
some-value (many f) = ([], end)

then-got : {A : Type 0} (x : Read A) → x ≡ then_read x (λ a u. got a u)
unfolding then_read
then-got (got a u) = refl
then-got (bad u) = refl

word-then : {A : Type 0} (w : List ℕ) (a : A) (t : List ℕ) → read_word w a t ≡ then_read (read_word w true t) (λ _ u. got a u)
unfolding read_word then_read
word-then [] a t = refl
word-then (c ∷ w) a [] = refl
word-then (c ∷ w) a (b ∷ t) = on-flag (eqb b c) (λ e. rw (e, read_word) (word-then w a t)) (λ e. rw (e, read_word))

abbrev one_word : String → String → Reader Bool
one_word v w = record { reads = read_one v w; spells = spell_one v w; Good = λ _. Unit {0} }

one-read : (v w : String) (t : List ℕ) → Outcome (one_word v w) t (read_one v w t)
unfolding read_one spell_one
one-read v w [] = refused-here (one_word v w) true tt [] (λ w l. elim l [ ])
one-read v w (b ∷ t) =
    on-flag (word_starts v b)
    (λ e. rw (e, read_one)
    (outcome-as _ (one_word v w) (λ x h. rw h (tt, refl)) (b ∷ t) (like (λ s. read_one v w s ≡ read_word (bytes v) true s) (λ r. rw (e, read_one))) (read_word (bytes v) true (b ∷ t)) (word_read (bytes v) true (b ∷ t))))
    (λ e. rw (e, read_one)
    (outcome-as _ (one_word v w) (λ x h. rw h (tt, refl)) (b ∷ t) (like (λ s. read_one v w s ≡ read_word (bytes w) false s) (λ r. rw (e, read_one))) (read_word (bytes w) false (b ∷ t)) (word_read _ false (b ∷ t))))

abbrev pub the_form : (f : Form) → Reader (Value f)
the_form f = record { reads = read f; spells = spell f; Good = Spellable f }

pub form-read : (f : Form) → decided f ≡ true → (t : List ℕ) → Outcome (the_form f) t (read f t)
unfolding read spell
form-read number d t = number_read t
form-read (one_of v w) d t = one-read v w t
form-read (lead w f) d t =
    both_read _ (the_form f) _ (λ _ x. x) (λ _ x _ g. (g, refl)) (some-value f) (λ _ u. read f u) (λ _ u. then-got (read f u)) t (λ s l. refl)
    (read_word (bytes w) true t) (word_read (bytes w) true t) (λ _ u _. form-read f (lead-parts w f d).1 u)
form-read (trail f w) d t =
    both_read (the_form f) _ _ (λ x _. x) (λ x _ g _. (g, refl)) (true, refl) (λ x u. read_word (bytes w) x u) (λ x u. word-then (bytes w) x u) t (λ s l. refl)
    (read f t) (form-read f (trail-parts f w d).0 t) (λ _ u _. word_read (bytes w) true u)
form-read (both f g) d t =
    let s = both-parts f g d in
    both_read (the_form f) (the_form g) _ (λ x y. (x, y)) (λ x y i j. ((i, j), refl)) (some-value g) (λ x u. then_read (read g u) (λ y v. got (x, y) v)) (λ x u. refl) t (λ s l. refl)
    (read f t) (form-read f s.0 t) (λ _ u _. form-read g s.1 u)
form-read (many f) d t = let s = many-parts f d in many_read (starts f) (the_form f) (form-read f s.0) (λ v g. firm-begun f s.0 s.1 v) t

-- ---- what is spelled is read back

word_next : (p : ℕ → Bool) (w : String) → filled w ≡ true → clear_word p w ≡ true → (t : List ℕ) → NotNext p (bytes w ++ t)
word_next p w e c t = begun-not (λ b. clear-word p w b c) (begun-before t (word-begun w e))

one-first : (v w : String) {l : List ℕ} → Begun (word_starts v) l → read_one v w l ≡ read_word (bytes v) true l
unfolding read_one
one-first v w (begun e) = rw (e, read_one)

one-second : (v w : String) → clear_word (word_starts v) w ≡ true → {l : List ℕ} → Begun (word_starts w) l → read_one v w l ≡ read_word (bytes w) false l
unfolding read_one
one-second v w c (begun {b = b} e) = rw (clear-word (word_starts v) w b c e, read_one)

one-back : (v w : String) → decided (one_of v w) ≡ true → (x : Bool) (t : List ℕ) → read_one v w (spell_one v w x ++ t) ≡ got x t
unfolding spell_one
one-back v w d true t = one-first v w (begun-before t (word-begun v (one-parts v w d).0)) ∙ word_back _ true t
one-back v w d false t = let s = one-parts v w d in one-second v w s.2 (begun-before t (word-begun w s.1)) ∙ word_back _ false t

not-or : (p q : ℕ → Bool) (t : List ℕ) → NotNext (λ b. p b || q b) t → NotNext p t × NotNext q t
not-or p q [] h = (tt, tt)
not-or p q (b ∷ t) h = (or_left (p b) (q b) h, or_right (p b) (q b) h)

pub spelled-read : (f : Form) → decided f ≡ true → (v : Value f) → Spellable f v → (t : List ℕ) → NotNext (follows f) t → read f (spell f v ++ t) ≡ got v t
unfolding read spell follows then_read
spelled-read number d v g t h = read-spelled v g t h
spelled-read (one_of v w) d x g t h = one-back v w d x t
spelled-read (lead w f) d v g t h = rw (append_assoc, word_back (bytes w) true _) (spelled-read f (lead-parts w f d).1 v g t h)
spelled-read (trail f w) d v g t h =
    let s = trail-parts f w d in
    rw (append_assoc, spelled-read f s.0 v g (bytes w ++ t) (word_next (follows f) w s.1 s.2 t)) (word_back (bytes w) v t)
spelled-read (both f g) d v i t h =
    let s = both-parts f g d in
    let n = not-or (follows f) (follows g) t h in
    rw (append_assoc, spelled-read f s.0 v.0 i.0 _ (next-not (follows f) g s.1 s.2 s.3 v.1 t n.0), spelled-read g s.1 v.1 i.1 t n.1)
spelled-read (many f) d v g t h =
    let s = many-parts f d in
    let n = not-or (starts f) (follows f) t h in
    many-back (starts f) (the_form f) (form-read f s.0) (λ v g. firm-begun f s.0 s.1 v) (follows f) (spelled-read f s.0) (λ b e. clear_first (follows f) f b s.2 e) v g t n.1 n.0

-- ---- nothing else is read, and where a refusal comes

pub read-spelled-only : (f : Form) → decided f ≡ true → (t : List ℕ) (v : Value f) (u : List ℕ) → read f t ≡ got v u → Spellable f v × (t ≡ spell f v ++ u)
read-spelled-only f d t v u e = let k : Taken (the_form f) t v u = rw e at (form-read f d t) in (k.good, k.parts)

pub read-refused : (f : Form) → decided f ≡ true → (t u : List ℕ) → read f t ≡ bad u → Refused (the_form f) t u
read-refused f d t u e = rw e at (form-read f d t)

pub refused-viable : (f : Form) (t u : List ℕ) (k : Refused (the_form f) t u) → Viable f k.before
refused-viable f t u k = (k.after, k.value, k.good, k.begins)
