-- Lines: newlines add up, lines count from 1 and grow with the place, and a beginning of an index text has at most one line for 8 of its bytes, but for the last line.
-- For the last: every byte pays 1 and a newline costs 8; `credit` says what a form's texts leave of a credit, whatever they say.
use Rattle.meaning_numbers.proofs.Prelude.{◌≡◌, refl, List, [], ◌∷◌, ◌++◌, true, false, cond, Option, None, Some, none-some, ℕ, suc, ◌+◌, ◌*◌, ◌-◌, ◌<◌, ◌≤◌, min, le_refl, le_trans, arith, eqb, leb, ℤ, pos, negsuc, length, get_or, take, take-suc, take-append-add, length-take-le, ne_eqb, leb-true}
use Rattle.meaning_text.specs.Form.{Form, number, one_of, lead, trail, both, many, Value, spell_one, spell_many, spell}
use Rattle.meaning_text.specs.{Bytes.bytes, Bytes.newlines, Number.spellℕ, Number.spellℤ, Read.line_of, Read.Viable, Read.Longest, Texts.index_form}
use Rattle.meaning_text.proofs.{Open.open_text, Reading.on-flag, Number.spell-one, Number.spell-more, Number.by_digits}

pub newlines-append : (s t : List ℕ) → newlines (s ++ t) ≡ newlines s + newlines t
unfolding newlines
newlines-append [] t = omega arith
newlines-append (b ∷ s) t = on-flag (eqb b 10) (λ e. rw e (omega (arith, newlines-append s t))) (λ e. rw e (newlines-append s t))

pub newlines-length : (t : List ℕ) → newlines t ≤ length t
unfolding newlines
newlines-length [] = omega arith
newlines-length (b ∷ t) = on-flag (eqb b 10) (λ e. rw e (omega (arith, newlines-length t))) (λ e. rw e (omega (arith, newlines-length t)))

-- lines count from 1
pub line-counts : (t : List ℕ) (n : ℕ) → 1 ≤ line_of t n
unfolding line_of
line-counts t n = omega arith

pub line-start : (t : List ℕ) → line_of t 0 ≡ 1
unfolding line_of newlines
line-start t = refl

-- the line of the next place
pub line-next : (t : List ℕ) (n : ℕ) → n < length t → line_of t (suc n) ≡ cond (eqb (get_or t n 0) 10) (suc (line_of t n)) (line_of t n)
unfolding line_of newlines
line-next t n h =
    rw (take-suc t n 0, newlines-append)
    (on-flag (eqb (get_or t n 0) 10) (λ e. rw e (omega arith)) (λ e. rw e (omega arith)))

-- the line behind a first part
pub line-behind : (s t : List ℕ) (n : ℕ) → line_of (s ++ t) (length s + n) ≡ newlines s + line_of t n
unfolding line_of
line-behind s t n = rw (take-append-add s t n, newlines-append) (omega arith)

-- ---- a line for 8 bytes

-- from the credit c the text t can be paid for, byte by byte, and d is left
data Paid : ℕ → List ℕ → ℕ → Type 0 where
  settled : {c d : ℕ} → d ≤ c → Paid c [] d
  earns : {c b d : ℕ} {t : List ℕ} → eqb b 10 ≡ false → Paid (suc c) t d → Paid c (b ∷ t) d
  pays : {c b d : ℕ} {t : List ℕ} → 7 ≤ c → Paid (c - 7) t d → Paid c (b ∷ t) d

paid-more : {c d : ℕ} {t : List ℕ} (k : ℕ) → c ≤ k → Paid c t d → Paid k t d
paid-more k h (settled g) = settled (le_trans g h)
paid-more k h (earns e p) = earns e (paid-more (suc k) (omega arith) p)
paid-more k h (pays g p) = pays {c = k} (omega arith) (paid-more (k - 7) (omega arith) p)

paid-then : {c d e : ℕ} {s t : List ℕ} → Paid c s d → Paid d t e → Paid c (s ++ t) e
paid-then {c} (settled g) q = paid-more c g q
paid-then (earns e p) q = earns e (paid-then p q)
paid-then (pays g p) q = pays g (paid-then p q)

paid-begun : (p q : List ℕ) {c d : ℕ} → Paid c (p ++ q) d → newlines p * 8 ≤ length p + c
unfolding newlines
paid-begun [] q r = omega arith
paid-begun (b ∷ p) q (earns e r) = rw e (omega (arith, paid-begun p q r))
paid-begun (b ∷ p) q (pays g r) = on-flag (eqb b 10) (λ e. rw e (omega (arith, paid-begun p q r))) (λ e. rw e (omega (arith, paid-begun p q r)))

-- the second step of a first that may give none
unfoldable bind : {A B : Type 0} → Option A → (A → Option B) → Option B
bind None f = None
bind (Some a) f = f a

-- what a word leaves of a credit
unfoldable credit_word : List ℕ → ℕ → Option ℕ
credit_word [] c = Some c
credit_word (b ∷ w) c = elim (eqb b 10) [ true ↦ elim (leb 7 c) [ true ↦ credit_word w (c - 7) | false ↦ None ] | false ↦ credit_word w (suc c) ]

-- what a form's texts leave of a credit at least; a form that comes many times may not lessen it
unfoldable credit : Form → ℕ → Option ℕ
credit number c = Some (suc c)
credit (one_of v w) c = bind (credit_word (bytes v) c) (λ d. bind (credit_word (bytes w) c) (λ e. Some (min d e)))
credit (lead w f) c = bind (credit_word (bytes w) c) (credit f)
credit (trail f w) c = bind (credit f c) (credit_word (bytes w))
credit (both f g) c = bind (credit f c) (credit g)
credit (many f) c = bind (credit f c) (λ d. elim (leb c d) [ true ↦ Some c | false ↦ None ])

none-more : {A : Type 0} {n : ℕ} → None ≡ Some n → A
none-more e = absurd (none-some _ e)

-- both steps gave one
bind-some : {A B : Type 0} (o : Option A) (f : A → Option B) {b : B} → bind o f ≡ Some b → (a : A) × (o ≡ Some a) × (f a ≡ Some b)
unfolding bind
bind-some None f e = absurd (none-some _ e)
bind-some (Some a) f e = (a, refl, e)

some_same : {m n : ℕ} → Some m ≡ Some n → m ≡ n
some_same e = cc

paid-less : {c d : ℕ} {t : List ℕ} (k : ℕ) → k ≤ d → Paid c t d → Paid c t k
paid-less k h (settled g) = settled (le_trans h g)
paid-less k h (earns e p) = earns e (paid-less k h p)
paid-less k h (pays g p) = pays g (paid-less k h p)

word-paid : (w : List ℕ) (c d : ℕ) → credit_word w c ≡ Some d → Paid c w d
unfolding credit_word
word-paid [] c d e = rw (← some_same e) (settled (le_refl c))
word-paid (b ∷ w) c d e =
    on-flag _
    (λ t. on-flag _
    (λ l. pays (leb-true 7 c l) (word-paid w (c - 7) d (rw (t, credit_word, l) at e)))
    (λ l. none-more (rw (t, credit_word, l) at e)))
    (λ t. earns t (word-paid w (suc c) d (rw (t, credit_word) at e)))

digit-paid : (d c : ℕ) → d < 10 → Paid c ((48 + d) ∷ []) (suc c)
digit-paid d c l = earns (ne_eqb (48 + d) 10 (λ e. omega arith)) (settled (le_refl (suc c)))

digits-paid : (n c : ℕ) → Paid c (spellℕ n) (suc c)
digits-paid =
    by_digits (λ n. (c : ℕ) → Paid c (spellℕ n) (suc c))
    (λ d l c. rw (spell-one d l) (digit-paid d c l))
    (λ m d h l i c. rw (spell-more m d h l) (paid-less (suc c) (omega arith) (paid-then (i c) (digit-paid d (suc c) l))))

number-paid : (z : ℤ) (c : ℕ) → Paid c (spellℤ z) (suc c)
unfolding spellℤ
number-paid (pos n) c = digits-paid n c
number-paid (negsuc n) c = earns refl (paid-less (suc c) (omega arith) (digits-paid (suc n) (suc c)))

many-paid : {A : Type 0} (spells : A → List ℕ) (c : ℕ) → ((v : A) → Paid c (spells v) c) → (l : List A) → Paid c (spell_many spells l) c
unfolding spell_many
many-paid spells c h [] = settled (le_refl c)
many-paid spells c h (v ∷ l) = paid-then (h v) (many-paid spells c h l)

words-paid : (v w : List ℕ) (c d : ℕ) → bind (credit_word v c) (λ i. bind (credit_word w c) (λ j. Some (min i j))) ≡ Some d → Paid c v d × Paid c w d
words-paid v w c d e =
    let s = bind-some _ _ e in
    let r = bind-some _ _ s.2 in
    let m : min s.0 r.0 ≡ d = some_same r.2 in
    (paid-less d (omega arith) (word-paid v c s.0 s.1), paid-less d (omega arith) (word-paid w c r.0 r.1))

credit-paid : (f : Form) (c d : ℕ) → credit f c ≡ Some d → (v : Value f) → Paid c (spell f v) d
unfolding credit spell spell_one
credit-paid number c d e z = paid-less d (omega (arith, some_same e)) (number-paid z c)
credit-paid (one_of v w) c d e true = (words-paid (bytes v) (bytes w) c d e).0
credit-paid (one_of v w) c d e false = (words-paid (bytes v) (bytes w) c d e).1
credit-paid (lead w f) c d e x = let s = bind-some _ _ e in paid-then (word-paid (bytes w) c s.0 s.1) (credit-paid f s.0 d s.2 x)
credit-paid (trail f w) c d e x = let s = bind-some (credit f c) _ e in paid-then (credit-paid f c s.0 s.1 x) (word-paid (bytes w) s.0 d s.2)
credit-paid (both f g) c d e x = let s = bind-some (credit f c) (credit g) e in paid-then (credit-paid f c s.0 s.1 x.0) (credit-paid g s.0 d s.2 x.1)
credit-paid (many f) c d e l =
    let s = bind-some (credit f c) _ e in
    on-flag (leb c s.0)
    (λ t. rw (← (some_same (rw t at s.2))) (many-paid (spell f) c (λ v. paid-less c (leb-true c s.0 t) (credit-paid f c s.0 s.1 v)) l))
    (λ t. none-more (rw t at s.2))

few-lines : (f : Form) (d : ℕ) → credit f 0 ≡ Some d → (p : List ℕ) → Viable f p → newlines p * 8 ≤ length p
few-lines f d e p s =
    let r : Paid 0 (p ++ s.0) d = rw s.3 (credit-paid f 0 d e s.1) in
    omega (arith, paid-begun p s.0 r)

-- the beginnings of an index text
pub index-lines : (p : List ℕ) → Viable index_form p → newlines p * 8 ≤ length p
unfolding open_text credit_word credit bind
index-lines = few-lines index_form _ refl

-- the bad line, where beginnings have few lines
pub bad-line : (f : Form) → ((p : List ℕ) → Viable f p → newlines p * 8 ≤ length p) → (t : List ℕ) (n : ℕ) → Longest f t n → line_of t n * 8 ≤ length t + 8
unfolding line_of
bad-line f few t n l = omega (arith, few (take n t) l.viable, l.inside, length-take-le n t l.inside)
