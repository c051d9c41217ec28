-- A form describes texts. What can be said in it is its values; `spell` writes a value, `read` takes from a text exactly what `spell` writes. Each place of a form is decided by the next byte.
use Prim.Native.Char.{code}
use Rattle.std.specs.Prelude.{ℕ, zero, suc, eqb, ℤ, length, Bool, true, false, ◌||◌, List, [], ◌∷◌, ◌++◌}
use Prim.Native.String.{String, [] as empty, ◌∷◌ as ◌before◌}
use Rattle.meaning_text.specs.Bytes.{bytes}
use Rattle.meaning_text.specs.Number.{spellℤ, Short, Read, got, bad, is_digit, readℤ}

pub data Form : Type 0 where
  -- a number
  number : Form
  -- one of two words
  one_of : String → String → Form
  -- a word, then the form
  lead : String → Form → Form
  -- the form, then a word
  trail : Form → String → Form
  -- one form after the other
  both : Form → Form → Form
  -- the form, any number of times
  many : Form → Form

-- what a form says: true is the first of two words
abbrev pub Value : Form → Type 0
Value number = ℤ
Value (one_of v w) = Bool
Value (lead w f) = Value f
Value (trail f w) = Value f
Value (both f g) = Value f × Value g
Value (many f) = List (Value f)

-- ---- spelling

-- the word that a test picks
unfoldable pub spell_one : String → String → Bool → List ℕ
spell_one v w true = bytes v
spell_one v w false = bytes w

-- values one after the other
unfoldable pub spell_many : {A : Type 0} → (A → List ℕ) → List A → List ℕ
spell_many one [] = []
spell_many one (x ∷ l) = one x ++ spell_many one l

-- a value of a form as bytes
unfoldable pub spell : (f : Form) → Value f → List ℕ
spell number z = spellℤ z
spell (one_of v w) t = spell_one v w t
spell (lead w f) x = bytes w ++ spell f x
spell (trail f w) x = spell f x ++ bytes w
spell (both f g) x = spell f x.0 ++ spell g x.1
spell (many f) l = spell_many (spell f) l

-- each of the values has the property
pub data Each {A : Type 0} (P : A → Type 0) : List A → Type 0 where
  end : Each P []
  more : {x : A} {l : List A} → P x → Each P l → Each P (x ∷ l)

-- the numbers of a value have at most 18 digits
abbrev pub Spellable : (f : Form) → Value f → Type 0
Spellable number z = Short z
Spellable (one_of v w) t = Unit {0}
Spellable (lead w f) x = Spellable f x
Spellable (trail f w) x = Spellable f x
Spellable (both f g) x = Spellable f x.0 × Spellable g x.1
Spellable (many f) l = Each (Spellable f) l

-- ---- reading

-- exactly these bytes
unfoldable pub read_word : {A : Type 0} → List ℕ → A → List ℕ → Read A
read_word [] a t = got a t
read_word (c ∷ w) a [] = bad []
read_word (c ∷ w) a (b ∷ t) = elim (eqb b c) [ true ↦ read_word w a t | false ↦ bad (b ∷ t) ]

-- what is read, and then on from there
unfoldable pub then_read : {A B : Type 0} → Read A → (A → List ℕ → Read B) → Read B
then_read (got a t) f = f a t
then_read (bad t) f = bad t

-- the byte is the word's first
unfoldable pub word_starts : String → ℕ → Bool
word_starts empty b = false
word_starts (c before w) b = eqb b (code c)

-- some text of the form begins with the byte, where its first part is not empty
unfoldable pub starts : Form → ℕ → Bool
starts number b = eqb b 45 || is_digit b
starts (one_of v w) b = word_starts v b || word_starts w b
starts (lead w f) b = word_starts w b
starts (trail f w) b = starts f b
starts (both f g) b = starts f b
starts (many f) b = starts f b

-- the one of two words that the next byte starts, and the second where neither is
unfoldable pub read_one : String → String → List ℕ → Read Bool
read_one v w [] = bad []
read_one v w (b ∷ t) = elim (word_starts v b) [ true ↦ read_word (bytes v) true (b ∷ t) | false ↦ read_word (bytes w) false (b ∷ t) ]

-- as often as the next byte starts one more; k bounds how often
unfoldable pub read_many : {A : Type 0} → (ℕ → Bool) → (List ℕ → Read A) → ℕ → List ℕ → Read (List A)
read_many begins one zero t = got [] t
read_many begins one (suc k) [] = got [] []
read_many begins one (suc k) (b ∷ t) = elim (begins b) [
  | true ↦ then_read (one (b ∷ t)) (λ a u. then_read (read_many begins one k u) (λ l v. got (a ∷ l) v))
  | false ↦ got [] (b ∷ t)
]

-- a value of the form off the front of a text (laws: `spelled-read`, `read-spelled-only`)
unfoldable pub read : (f : Form) → List ℕ → Read (Value f)
read number t = readℤ t
read (one_of v w) t = read_one v w t
read (lead w f) t = then_read (read_word (bytes w) true t) (λ _ u. read f u)
read (trail f w) t = then_read (read f t) (λ x u. read_word (bytes w) x u)
read (both f g) t = then_read (read f t) (λ x u. then_read (read g u) (λ y v. got (x, y) v))
read (many f) t = read_many (starts f) (read f) (length t) t
