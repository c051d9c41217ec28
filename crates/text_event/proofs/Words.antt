-- A word that stands in a text, byte by byte.
use Rattle.meaning_numbers.proofs.Prelude.{◌≡◌, sym, ap, ◌∙◌, List, ℕ, ◌+◌, ◌<◌, ◌≤◌, dec_lt, arith, length, get_or, take, drop, length-take, length-drop, get_or-take, get_or-drop, ext_get_or}
use Rattle.text_event.specs.Event.{WordAt}

byte-here : (text : List ℕ) (i n k : ℕ) → k < n → get_or (take n (drop i text)) k 0 ≡ get_or text (i + k) 0
byte-here text i n k h = get_or-take n _ k 0 h ∙ get_or-drop i text k 0

-- place j has byte k of the word
pub stands-byte : {text word : List ℕ} {i : ℕ} → WordAt text i word → (k j : ℕ) → k < length word → j ≡ i + k → (j < length text) × (get_or text j 0 ≡ get_or word k 0)
stands-byte {text} {word} {i} s k j h e =
    (omega (arith, ap (λ (l : List ℕ). length l) s.begins, length-take (length word) (drop i text), length-drop i text, h, e), rw e (sym (byte-here text i (length word) k h) ∙ rw s.begins))

-- all bytes of the word are there
pub stands-all : (text word : List ℕ) (i : ℕ) → i + length word ≤ length text → ((k : ℕ) → k < length word → get_or text (i + k) 0 ≡ get_or word k 0) → WordAt text i word
stands-all text word i room same =
    let n : length (take (length word) (drop i text)) ≡ length word = omega (arith, room, length-take (length word) (drop i text), length-drop i text) in
    record { begins = ext_get_or 0 _ word n (λ k h. let l : k < length word = omega (arith, h, n) in byte-here text i (length word) k l ∙ same k l) }

-- one byte more is the same
pub same_more : (text word : List ℕ) (i k : ℕ) → ((j : ℕ) → j < k → get_or text (i + j) 0 ≡ get_or word j 0) → get_or text (i + k) 0 ≡ get_or word k 0 → (j : ℕ) → j < k + 1 → get_or text (i + j) 0 ≡ get_or word j 0
same_more text word i k f e j h = elim (dec_lt j k) [ yes l ↦ f j l | no n ↦ let q : j ≡ k = omega (arith, h, n) in rw q e ]
