-- Reading byte by byte, for any form: an automaton whose every state has a reader for what is left of the text (`Onward`), such that a byte takes a state to one that reads the rest alike, comes to what `read_text` says, whatever the pieces in which the text comes.
use Rattle.meaning_numbers.proofs.Prelude.{◌≡◌, refl, ap, ◌∙◌, List, [], ◌∷◌, ◌++◌, Option, None, Some, ℕ, suc, ◌+◌, ◌-◌, ◌<◌, ◌≤◌, add-one, arith, length, get_or, drop, drop_of_length-le, drop-cons}
use Rattle.meaning_text.specs.{Number.Read, Number.got, Number.bad, Form.Form, Form.Value, Form.read, Read.Verdict, Read.fine, Read.unfit, Read.ended, Read.read_text}
use Rattle.meaning_text.proofs.Onward.{Rest}

-- how far a text has been read: the state after p bytes, or that byte p was refused
pub data Fed (S : Type 0) : Type 0 where
  going : S → ℕ → Fed S
  failed : ℕ → Fed S

pub on-option : {A B : Type 0} (x : Option A) → ((a : A) → x ≡ Some a → B) → (x ≡ None → B) → B
on-option (Some a) f g = f a refl
on-option None f g = g refl

-- ---- feeding

module _ {S : Type 0} (step : S → ℕ → Option S) where
  abbrev pub after : Option S → ℕ → Fed S
  after (Some s) p = going s (suc p)
  after None p = failed p

  abbrev pub feed_byte : Fed S → ℕ → Fed S
  feed_byte (going s p) b = after (step s b) p
  feed_byte (failed p) b = failed p

  unfoldable pub feed : Fed S → List ℕ → Fed S
  feed x [] = x
  feed x (b ∷ t) = feed (feed_byte x b) t

  -- a text in pieces
  pub feed-append : (a b : List ℕ) (x : Fed S) → feed x (a ++ b) ≡ feed (feed x a) b
  unfolding feed
  feed-append [] b x = refl
  feed-append (c ∷ a) b x = feed-append a b _

  pub feed-failed : (t : List ℕ) (p : ℕ) → feed (failed p) t ≡ failed p
  unfolding feed
  feed-failed [] p = refl
  feed-failed (b ∷ t) p = feed-failed t p

  pub feed-one : (s m : S) (b : ℕ) (l : List ℕ) (p : ℕ) → step s b ≡ Some m → feed (going s p) (b ∷ l) ≡ feed (going m (suc p)) l
  unfolding feed
  feed-one s m b l p e = rw e

  pub feed-none : (s : S) (b : ℕ) (l : List ℕ) (p : ℕ) → step s b ≡ None → feed (going s p) (b ∷ l) ≡ failed p
  unfolding feed
  feed-none s b l p e = rw e (feed-failed l p)

  -- for a loop over a slice: a turn, a refusal, the end
  pub feed-turn : (s m : S) (t : List ℕ) (i p : ℕ) → i < length t → step s (get_or t i 0) ≡ Some m → feed (going s p) (drop i t) ≡ feed (going m (suc p)) (drop (i + 1) t)
  feed-turn s m t i p h e = ap (feed (going s p)) (drop-cons t i 0 h) ∙ feed-one s m _ _ p e ∙ rw (add-one i)

  pub feed-refuse : (s : S) (t : List ℕ) (i p : ℕ) → i < length t → step s (get_or t i 0) ≡ None → feed (going s p) (drop i t) ≡ failed p
  feed-refuse s t i p h e = ap (feed (going s p)) (drop-cons t i 0 h) ∙ feed-none s _ (drop (suc i) t) p e

  pub feed-end : (x : Fed S) (t : List ℕ) (i : ℕ) → length t ≤ i → feed x (drop i t) ≡ x
  unfolding feed
  feed-end x t i h = rw (drop_of_length-le t h)

-- ---- what a text comes to

-- a value, or the place where the text ends too early
abbrev pub at_end : {A : Type 0} → Option A → ℕ → Verdict A
at_end (Some a) p = fine a
at_end None p = unfit p

module _ {S A : Type 0} (accept : S → Option A) where
  abbrev pub judged : Fed S → Verdict A
  judged (going s p) = at_end (accept s) p
  judged (failed p) = unfit p

-- nothing of the value is wanted but this
abbrev pub verdict_of : {A B : Type 0} → (A → B) → Verdict A → Verdict B
verdict_of f (fine a) = fine (f a)
verdict_of f (unfit p) = unfit p

abbrev pub read_of : {A B : Type 0} → (A → B) → Read A → Read B
read_of f (got a t) = got (f a) t
read_of f (bad t) = bad t

ended_of : {A B : Type 0} (f : A → B) (n : ℕ) (x : Read A) → ended n (read_of f x) ≡ verdict_of f (ended n x)
unfolding ended
ended_of f n (got a []) = refl
ended_of f n (got a (b ∷ t)) = refl
ended_of f n (bad t) = refl

-- a text of which nothing more is taken
pub data Halts {A : Type 0} (t : List ℕ) : Read A → Type 0 where
  bad-here : Halts t (bad t)
  over : {a : A} → Halts t (got a t)

halts-unfit : {A : Type 0} (b : ℕ) (t : List ℕ) (n : ℕ) {x : Read A} → Halts (b ∷ t) x → ended n x ≡ unfit (n - suc (length t))
unfolding ended
halts-unfit b t n bad-here = refl
halts-unfit b t n over = refl

-- the rest of a text that has ended
abbrev pub at_rest : {A : Type 0} → Option A → Read A
at_rest (Some a) = got a []
at_rest None = bad []

module _ {S A : Type 0} (step : S → ℕ → Option S) (accept : S → Option A) (Good : S → Type 0) (rest : S → Rest A) where
  -- what is asked of an automaton
  pub record Follows : Type 0 where
    pub stays-good : (s : S) (b : ℕ) (n : S) → Good s → step s b ≡ Some n → Good n
    pub goes_on : (s : S) (b : ℕ) (n : S) → Good s → step s b ≡ Some n → (t : List ℕ) → rest s (b ∷ t) ≡ rest n t
    pub halts : (s : S) (b : ℕ) → Good s → step s b ≡ None → (t : List ℕ) → Halts (b ∷ t) (rest s (b ∷ t))
    pub ends : (s : S) → Good s → rest s [] ≡ at_rest (accept s)

  module _ (L : Follows) where
    end-judged : (x : Option A) (p : ℕ) → ended (p + 0) (at_rest x) ≡ at_end x p
    unfolding ended
    end-judged (Some a) p = refl
    end-judged None p = ap unfit (omega arith)

    pub fed-comes : (t : List ℕ) (s : S) (p : ℕ) → Good s → ended (p + length t) (rest s t) ≡ judged accept (feed step (going s p) t)
    unfolding feed
    fed-comes [] s p g = rw (L.ends s g) (end-judged (accept s) p)
    fed-comes (b ∷ t) s p g =
        on-option _
        (λ n e. let q : p + suc (length t) ≡ suc p + length t = omega arith in rw (q, L.goes_on s b n g e t, e) (fed-comes t n (suc p) (L.stays-good s b n g e)))
        (λ e. let q : p + suc (length t) - suc (length t) ≡ p = omega arith in rw (e, feed-failed step t p) (halts-unfit b t _ (L.halts s b g e t) ∙ ap unfit q))

    -- the text of a form, where the automaton begins as the form is read
    pub text-comes : (f : Form) (out : A → Value f) (start : S) → Good start → ((t : List ℕ) → read f t ≡ read_of out (rest start t)) → (t : List ℕ) → read_text f t ≡ verdict_of out (judged accept (feed step (going start 0) t))
    unfolding read_text
    text-comes f out start g e t =
        let q : 0 + length t ≡ length t = omega arith in
        rw (e t) (ended_of out _ (rest start t) ∙ ap (verdict_of out) (rw q at (fed-comes t start 0 g)))

-- where the automaton accepts the form's own values
module _ (f : Form) {S : Type 0} (step : S → ℕ → Option S) (accept : S → Option (Value f)) (Good : S → Type 0) (rest : S → Rest (Value f)) (L : Follows step accept Good rest) where
  verdict-same : (x : Verdict (Value f)) → verdict_of (λ v. v) x ≡ x
  verdict-same (fine v) = refl
  verdict-same (unfit n) = refl

  read_same : (x : Read (Value f)) → x ≡ read_of (λ v. v) x
  read_same (got v t) = refl
  read_same (bad t) = refl

  pub form-comes : (start : S) → Good start → ((t : List ℕ) → read f t ≡ rest start t) → (t : List ℕ) → read_text f t ≡ judged accept (feed step (going start 0) t)
  form-comes start g e t = text-comes step accept Good rest L f (λ v. v) start g (λ t. e t ∙ read_same _) t ∙ verdict-same _
