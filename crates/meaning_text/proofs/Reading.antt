-- What reading comes to, for any reader: either a value is taken, and what it is spelled as is taken off the text; or what was read begins some spelled value. Whatever stands behind the next byte does not matter.
-- Readers are put together: a word, one reader after another, one reader many times.
use Rattle.meaning_numbers.proofs.Prelude.{◌≡◌, refl, ap, ◌∙◌, List, [], ◌∷◌, ◌++◌, append_assoc, Bool, true, false, ◌&&◌, ℕ, zero, suc, ◌<◌, ◌≤◌, arith, eqb, length, length-append, eqb-true, eq-eqb}
use Rattle.meaning_text.specs.Number.{Read, got, bad}
use Rattle.meaning_text.specs.Form.{spell_many, Each, end, more, read_word, then_read, read_many}
pub use Rattle.meaning_numbers.proofs.Tests.{by-test}

-- a test is taken apart with what it says
pub on-flag : (t : Bool) {A : Type 0} → (t ≡ true → A) → (t ≡ false → A) → A
on-flag true f g = f refl
on-flag false f g = g refl

pub false-true : {A : Type 0} → false ≡ true → A
false-true e = let z : ◌≡◌ {A = ℕ} 0 1 = cc in absurd (omega arith)

pub and-true : (a b : Bool) → a && b ≡ true → (a ≡ true) × (b ≡ true)
and-true true b e = (refl, e)
and-true false b e = false-true e

-- two texts have the same first byte
pub data Alike : List ℕ → List ℕ → Type 0 where
  alike : {b : ℕ} {r s : List ℕ} → Alike (b ∷ r) (b ∷ s)

alike-behind : (p : List ℕ) {u w : List ℕ} → Alike u w → Alike (p ++ u) (p ++ w)
alike-behind [] a = a
alike-behind (b ∷ p) a = alike

alike_from : {t u w : List ℕ} (p : List ℕ) → t ≡ p ++ u → Alike u w → Alike t (p ++ w)
alike_from p e a = rw e (alike-behind p a)

-- what holds of all texts with this first byte
pub like : (P : List ℕ → Type 0) {b : ℕ} {t : List ℕ} → ((r : List ℕ) → P (b ∷ r)) → (s : List ℕ) → Alike (b ∷ t) s → P s
like P f s (alike {s = r}) = f r

-- the next byte, if any, does not pass the test
abbrev pub NotNext : (ℕ → Bool) → List ℕ → Type 0
NotNext p [] = Unit {0}
NotNext p (b ∷ t) = p b ≡ false

-- there is a next byte, and it passes the test
pub data Begun (p : ℕ → Bool) : List ℕ → Type 0 where
  begun : {b : ℕ} {r : List ℕ} → p b ≡ true → Begun p (b ∷ r)

pub begun-before : {p : ℕ → Bool} {s : List ℕ} (t : List ℕ) → Begun p s → Begun p (s ++ t)
begun-before t (begun e) = begun e

pub begun-as : {p q : ℕ → Bool} {s : List ℕ} → ((b : ℕ) → p b ≡ true → q b ≡ true) → Begun p s → Begun q s
begun-as h (begun {b = b} e) = begun (h b e)

pub begun-not : {p q : ℕ → Bool} {s : List ℕ} → ((b : ℕ) → p b ≡ true → q b ≡ false) → Begun p s → NotNext q s
begun-not h (begun {b = b} e) = h b e

begun-long : {p : ℕ → Bool} {s : List ℕ} → Begun p s → 0 < length s
begun-long (begun e) = omega arith

-- a reader, and what it is to read
pub record Reader (A : Type 0) : Type 1 where
  pub reads : List ℕ → Read A
  pub spells : A → List ℕ
  pub Good : A → Type 0

module _ {A : Type 0} (R : Reader A) where
  -- reading t takes v and leaves u
  pub record Taken (t : List ℕ) (v : A) (u : List ℕ) : Type 0 where
    pub good : R.Good v
    pub parts : t ≡ R.spells v ++ u
    pub steady : (w : List ℕ) → Alike u w → R.reads (R.spells v ++ w) ≡ got v w

  -- reading t is bad at u
  pub record Refused (t u : List ℕ) : Type 0 where
    pub before : List ℕ
    pub after : List ℕ
    pub value : A
    pub good : R.Good value
    pub parts : t ≡ before ++ u
    pub begins : before ++ after ≡ R.spells value
    pub steady : (w : List ℕ) → Alike u w → R.reads (before ++ w) ≡ bad w

  abbrev pub Outcome : List ℕ → Read A → Type 0
  Outcome t (got v u) = Taken t v u
  Outcome t (bad u) = Refused t u

  -- bad at once
  pub refused-here : (v : A) → R.Good v → (t : List ℕ) → ((w : List ℕ) → Alike t w → R.reads w ≡ bad w) → Refused t t
  refused-here v g t h = record { before = []; after = R.spells v; value = v; good = g; parts = refl; begins = refl; steady = h }

-- a reader that agrees with another on all texts like t
module _ {A : Type 0} (R S : Reader A) (same : (v : A) → R.Good v → S.Good v × (R.spells v ≡ S.spells v)) (t : List ℕ) (agree : (s : List ℕ) → Alike t s → S.reads s ≡ R.reads s) where
  pub outcome-as : (x : Read A) → Outcome R t x → Outcome S t x
  outcome-as (got v u) o =
      let e = same v o.good in
      let p : t ≡ S.spells v ++ u = rw (← e.1) o.parts in
      record { good = e.0; parts = p; steady = λ w a. agree _ (alike_from (S.spells v) p a) ∙ rw (← e.1) (o.steady w a) }
  outcome-as (bad u) o =
      let e = same o.value o.good in
      record {
        before = o.before;
        after = o.after;
        value = o.value;
        good = e.0;
        parts = o.parts;
        begins = o.begins ∙ e.1;
        steady = λ w a. agree _ (alike_from o.before o.parts a) ∙ o.steady w a;
      }

-- ---- a word

abbrev pub the_word : {A : Type 0} → List ℕ → A → Reader A
the_word w a = record { reads = read_word w a; spells = λ _. w; Good = λ v. v ≡ a }

pub word_back : {A : Type 0} (w : List ℕ) (a : A) (t : List ℕ) → read_word w a (w ++ t) ≡ got a t
unfolding read_word
word_back [] a t = refl
word_back (c ∷ w) a t = rw (eq-eqb c c refl, read_word) (word_back w a t)

module _ {A : Type 0} (w : List ℕ) (a : A) (c : ℕ) where
  word_more : (t : List ℕ) (x : Read A) → Outcome (the_word w a) t x → Outcome (the_word (c ∷ w) a) (c ∷ t) x
  unfolding read_word
  word_more t (got v u) o = record { good = o.good; parts = ap (◌∷◌ c) o.parts; steady = λ s l. rw (eq-eqb c c refl, read_word) (o.steady s l) }
  word_more t (bad u) o = record {
    before = c ∷ o.before;
    after = o.after;
    value = o.value;
    good = o.good;
    parts = ap (◌∷◌ c) o.parts;
    begins = ap (◌∷◌ c) o.begins;
    steady = λ s l. rw (eq-eqb c c refl, read_word) (o.steady s l);
  }

pub word_read : {A : Type 0} (w : List ℕ) (a : A) (t : List ℕ) → Outcome (the_word w a) t (read_word w a t)
unfolding read_word
word_read [] a t = record { good = refl; parts = refl; steady = λ s l. refl }
word_read (c ∷ w) a [] = refused-here _ a refl [] (λ s l. elim l [ ])
word_read (c ∷ w) a (b ∷ t) =
    on-flag (eqb b c)
    (λ e. rw (e, read_word) (rw (eqb-true b c e) (word_more w a c t (read_word w a t) (word_read w a t))))
    (λ e. rw (e, read_word) (refused-here _ a refl (b ∷ t) (like (λ s. read_word (c ∷ w) a s ≡ bad s) (λ r. rw (e, read_word)))))

-- ---- one reader after another

module _
    {A B C : Type 0} (R : Reader A) (S : Reader B) (P : Reader C) (make : A → B → C)
    (made : (a : A) (b : B) → R.Good a → S.Good b → P.Good (make a b) × (P.spells (make a b) ≡ R.spells a ++ S.spells b))
    (some : (b : B) × S.Good b)
    (next : A → List ℕ → Read C) (next-is : (a : A) (u : List ℕ) → next a u ≡ then_read (S.reads u) (λ b v. got (make a b) v))
    (t : List ℕ) (agree : (s : List ℕ) → Alike t s → P.reads s ≡ then_read (R.reads s) next) where
  -- the first value is taken: what the second reader comes to
  module _ (a : A) (u : List ℕ) (k : Taken R t a u) where
    parted : (l v : List ℕ) → u ≡ l ++ v → t ≡ (R.spells a ++ l) ++ v
    parted l v e = rw append_assoc (rw (← e) k.parts)

    second_is : (l w v : List ℕ) → u ≡ l ++ v → Alike v w → P.reads ((R.spells a ++ l) ++ w) ≡ then_read (S.reads (l ++ w)) (λ b v. got (make a b) v)
    unfolding then_read
    second_is l w v e h =
        agree ((R.spells a ++ l) ++ w) (alike_from (R.spells a ++ l) (parted l v e) h)
        ∙ rw (append_assoc _ l w, k.steady _ (alike_from l e h))
        (next-is a _)

    second : (y : Read B) → Outcome S u y → Outcome P t (then_read y (λ b v. got (make a b) v))
    unfolding then_read
    second (got b v) o =
        let m = made a b k.good o.good in
        record {
          good = m.0;
          parts = rw m.1 (parted _ v o.parts);
          steady = λ w h. rw m.1 (second_is _ w v o.parts h ∙ rw (o.steady w h));
        }
    second (bad v) o =
        let m = made a _ k.good o.good in
        record {
          before = R.spells a ++ o.before;
          after = o.after;
          value = make a o.value;
          good = m.0;
          parts = parted o.before v o.parts;
          begins = rw (m.1, append_assoc, o.begins);
          steady = λ w h. second_is o.before w v o.parts h ∙ rw (o.steady w h);
        }

  pub both_read : (x : Read A) → Outcome R t x → ((a : A) (u : List ℕ) → Taken R t a u → Outcome S u (S.reads u)) → Outcome P t (then_read x next)
  unfolding then_read
  both_read (got a u) o f = rw next-is (second a u o (S.reads u) (f a u o))
  both_read (bad u) o f =
      let m = made _ _ o.good some.1 in
      record {
        before = o.before;
        after = o.after ++ S.spells some.0;
        value = make o.value some.0;
        good = m.0;
        parts = o.parts;
        begins = rw (m.1, ← o.begins, append_assoc);
        steady = λ w h. agree _ (alike_from o.before o.parts h) ∙ rw (o.steady w h);
      }

-- ---- one reader many times

then_same : {A B : Type 0} (x : Read A) (f g : A → List ℕ → Read B) → ((a : A) (u : List ℕ) → x ≡ got a u → f a u ≡ g a u) → then_read x f ≡ then_read x g
unfolding then_read
then_same (got a u) f g h = h a u refl
then_same (bad u) f g h = refl

module _ {A : Type 0} (begins : ℕ → Bool) (R : Reader A) where
  abbrev pub read_all : List ℕ → Read (List A)
  read_all t = read_many begins R.reads (length t) t

  abbrev pub times : Reader (List A)
  times = record { reads = read_all; spells = spell_many R.spells; Good = Each R.Good }

module _ {A : Type 0} (begins : ℕ → Bool) (R : Reader A) (read_one : (t : List ℕ) → Outcome R t (R.reads t)) (first : (v : A) → R.Good v → Begun begins (R.spells v)) where
  shorter : (t u : List ℕ) (a : A) → Taken R t a u → length u < length t
  shorter t u a k = omega (arith, begun-long (first a k.good), simp length-append at (ap length k.parts))

  -- the bound is enough
  enough : (k j : ℕ) (t : List ℕ) → length t ≤ k → length t ≤ j → read_many begins R.reads k t ≡ read_many begins R.reads j t
  unfolding read_many
  enough zero zero t h g = refl
  enough zero (suc j) [] h g = refl
  enough zero (suc j) (b ∷ t) h g = absurd (omega arith)
  enough (suc k) zero [] h g = refl
  enough (suc k) zero (b ∷ t) h g = absurd (omega arith)
  enough (suc k) (suc j) [] h g = refl
  enough (suc k) (suc j) (b ∷ t) h g =
      on-flag (begins b)
      (λ e. rw (e, read_many) (then_same _ _ _ (λ a u o. let l = shorter (b ∷ t) u a (rw o at (read_one (b ∷ t))) in rw (enough k j u (omega arith) (omega arith)))))
      (λ e. rw (e, read_many))

  abbrev next : A → List ℕ → Read (List A)
  next a u = then_read (read_all begins R u) (λ l v. got (a ∷ l) v)

  -- one more
  many_more : (b : ℕ) (t : List ℕ) → begins b ≡ true → read_all begins R (b ∷ t) ≡ then_read (R.reads (b ∷ t)) next
  unfolding read_many
  many_more b t e =
      rw (e, read_many)
      (then_same _ _ next (λ a u o. let l = shorter (b ∷ t) u a (rw o at (read_one (b ∷ t))) in rw (enough (length t) (length u) u (omega arith) (omega arith))))

  -- and no more
  many-end : (t : List ℕ) → NotNext begins t → read_all begins R t ≡ got [] t
  unfolding read_many
  many-end [] e = refl
  many-end (b ∷ t) e = rw (e, read_many)

  many-none : (t : List ℕ) → ((w : List ℕ) → Alike t w → read_all begins R w ≡ got [] w) → Taken (times begins R) t [] t
  unfolding spell_many
  many-none t h = record { good = end; parts = refl; steady = h }

  many-to : (k : ℕ) (t : List ℕ) → length t ≤ k → Outcome (times begins R) t (read_all begins R t)
  unfolding read_many spell_many
  many-to zero [] h = many-none [] (λ w l. elim l [ ])
  many-to zero (b ∷ t) h = absurd (omega arith)
  many-to (suc k) [] h = many-none [] (λ w l. elim l [ ])
  many-to (suc k) (b ∷ t) h =
      on-flag (begins b)
      (λ e. rw (many_more b t e)
      (both_read R _ _ ◌∷◌ (λ a l g i. (more g i, refl)) ([], end) next (λ a u. refl) (b ∷ t)
      (like (λ s. read_all begins R s ≡ then_read (R.reads s) next) (λ r. many_more b r e)) _ (read_one (b ∷ t)) (λ a u o. many-to k u (omega (arith, shorter (b ∷ t) u a o)))))
      (λ e. rw (many-end (b ∷ t) e) (many-none (b ∷ t) (like (λ s. read_all begins R s ≡ got [] s) (λ r. many-end (b ∷ r) e))))

  pub many_read : (t : List ℕ) → Outcome (times begins R) t (read_all begins R t)
  many_read t = many-to (length t) t (omega arith)

  module _ (follows : ℕ → Bool) (back : (v : A) → R.Good v → (t : List ℕ) → NotNext follows t → R.reads (R.spells v ++ t) ≡ got v t) (apart : (b : ℕ) → begins b ≡ true → follows b ≡ false) where
    many-next : (l : List A) → Each R.Good l → (t : List ℕ) → NotNext follows t → NotNext follows (spell_many R.spells l ++ t)
    unfolding spell_many
    many-next [] end t f = f
    many-next (x ∷ l) (more g i) t f = begun-not apart (begun-before t (begun-before _ (first x g)))

    begun_more : {s : List ℕ} → Begun begins s → read_all begins R s ≡ then_read (R.reads s) next
    begun_more (begun {b = b} {r = r} e) = many_more b r e

    pub many-back : (l : List A) → Each R.Good l → (t : List ℕ) → NotNext follows t → NotNext begins t → read_all begins R (spell_many R.spells l ++ t) ≡ got l t
    unfolding spell_many then_read
    many-back [] end t f h = many-end t h
    many-back (x ∷ l) (more g i) t f h =
        let m = spell_many R.spells l ++ t in
        rw append_assoc (begun_more (begun-before m (first x g)) ∙ rw (back x g m (many-next l i t f), many-back l i t f h))
