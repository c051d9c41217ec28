-- Reading a whole text, and the first bad line.
use Rattle.std.specs.Prelude.{ℕ, suc, ◌-◌, ◌<◌, ◌≤◌, length, take, List, [], ◌∷◌, ◌++◌, ◌≡◌}
use Rattle.meaning_text.specs.{Bytes.newlines, Number.Read, Number.got, Number.bad, Form.Form, Form.Value, Form.spell, Form.Spellable, Form.read}

-- what a text comes to: its value, or the place of its first bad byte; of a text cut short, the place where its next byte is due
pub data Verdict (A : Type 0) : Type 0 where
  fine : A → Verdict A
  unfit : ℕ → Verdict A

-- nothing may follow
unfoldable pub ended : {A : Type 0} → ℕ → Read A → Verdict A
ended n (got a []) = fine a
ended n (got a (b ∷ t)) = unfit (n - length (b ∷ t))
ended n (bad t) = unfit (n - length t)

-- a text read as a whole (laws: `reads-back`, `reads_only`, `first-bad`)
unfoldable pub read_text : (f : Form) → List ℕ → Verdict (Value f)
read_text f t = ended (length t) (read f t)

-- 01, Text: the line of a place; lines of a text count from 1
unfoldable pub line_of : List ℕ → ℕ → ℕ
line_of t place = suc (newlines (take place t))

-- ---- what the first bad byte is

-- some text in the form begins with p
abbrev pub Viable : Form → List ℕ → Type 0
Viable f p = (q : List ℕ) × (v : Value f) × Spellable f v × (p ++ q ≡ spell f v)

-- 01, Text: the first n bytes are the longest beginning of the text that a text in this form could have
pub record Longest (f : Form) (t : List ℕ) (n : ℕ) : Type 0 where
  pub inside : n ≤ length t
  pub viable : Viable f (take n t)
  pub longest : (m : ℕ) → n < m → m ≤ length t → Viable f (take m t) → ⊥
