-- Numbers: their digits; what is spelled is read back where no digit follows, nothing else is read, and a refusal comes behind a beginning of a spelled number.
-- By induction on the last digit, and over the digits read so far (`Reach`).
use Rattle.meaning_numbers.proofs.Prelude.{◌≡◌, refl, sym, ◌∙◌, List, [], ◌∷◌, ◌++◌, append_assoc, true, false, ◌&&◌, ◌⊎◌, inl, inr, ⊎_elim, ℕ, zero, suc, ◌+◌, ◌*◌, ◌-◌, ◌/◌, ◌%◌, ◌<◌, ◌≤◌, ◌^◌, pow-le-pow_right, arith, eqb, ltb, ℤ, pos, negsuc, neg_ℤ, ltb-true, ltb-false, lt-ltb, le-ltb, leb-true, le-leb, eqb-true, ne_eqb}
use Rattle.meaning_text.specs.Form.{read_word, then_read}
use Rattle.meaning_text.specs.Number.{digits, spellℕ, spellℤ, Short, Read, got, bad, is_digit, read_digits, read_positive, with_sign, readℤ}
use Rattle.meaning_text.proofs.Reading.{on-flag, and-true, Alike, like, NotNext, Reader, Taken, Refused, Outcome, refused-here, outcome-as, word_read, both_read}

-- ---- digits

digits_low : (k n : ℕ) → n < 10 → digits k n ≡ (48 + n) ∷ []
unfolding digits
digits_low zero n h = refl
digits_low (suc k) n h = rw (lt-ltb n 10 h, digits)

digits-high : (k n : ℕ) → 10 ≤ n → digits (suc k) n ≡ digits k (n / 10) ++ ((48 + n % 10) ∷ [])
unfolding digits
digits-high k n h = rw (le-ltb n 10 h, digits)

split10 : (n : ℕ) → (n < 10) ⊎ (10 ≤ n)
split10 n = on-flag _ (λ e. inl (ltb-true n 10 e)) (λ e. inr (ltb-false n 10 e))

digits-fuel : (k j n : ℕ) → n ≤ k → n ≤ j → digits k n ≡ digits j n
digits-fuel zero j n h g = digits_low zero n (omega arith) ∙ sym (digits_low j n (omega arith))
digits-fuel (suc k) zero n h g = digits_low (suc k) n (omega arith) ∙ sym (digits_low zero n (omega arith))
digits-fuel (suc k) (suc j) n h g =
    ⊎_elim
    (λ l. digits_low (suc k) n l ∙ sym (digits_low (suc j) n l))
    (λ l. rw (digits-high k n l, digits-high j n l, digits-fuel k j (n / 10) (omega arith) (omega arith)))
    (split10 n)

pub spell-one : (d : ℕ) → d < 10 → spellℕ d ≡ (48 + d) ∷ []
unfolding spellℕ
spell-one d h = digits_low d d h

pub spell-more : (m d : ℕ) → 0 < m → d < 10 → spellℕ (10 * m + d) ≡ spellℕ m ++ ((48 + d) ∷ [])
unfolding spellℕ
spell-more m d h l =
    let q : (10 * m + d) / 10 ≡ m = omega arith in
    let r : (10 * m + d) % 10 ≡ d = omega arith in
    digits-fuel _ _ _ (omega arith) (omega arith)
    ∙ digits-high (10 * m + d) (10 * m + d) (omega arith)
    ∙ rw (q, r, digits-fuel (10 * m + d) m m (omega arith) (omega arith))

-- a number is a digit, or a number above 0 with a digit behind it
module _ (P : ℕ → Type 0) (one : (d : ℕ) → d < 10 → P d) (more : (m d : ℕ) → 0 < m → d < 10 → P m → P (10 * m + d)) where
  by-digits-to : (k n : ℕ) → n ≤ k → P n
  by-digits-to zero n h = one n (omega arith)
  by-digits-to (suc k) n h =
      ⊎_elim (λ l. one n l)
      (λ l. let e : 10 * (n / 10) + n % 10 ≡ n = omega arith in rw e at (more _ (n % 10) (omega arith) (omega arith) (by-digits-to k (n / 10) (omega arith))))
      (split10 n)

  pub by_digits : (n : ℕ) → P n
  by_digits n = by-digits-to n n (omega arith)

-- a spelled number begins with a digit, and with no 0 if it is above 0
pub record Leading (n : ℕ) : Type 0 where
  pub digit : ℕ
  pub rest : List ℕ
  pub small : digit < 10
  pub no_zero : 0 < n → 0 < digit
  pub spelled : spellℕ n ≡ (48 + digit) ∷ rest

pub leading : (n : ℕ) → Leading n
leading =
    by_digits Leading
    (λ d l. record { digit = d; rest = []; small = l; no_zero = λ h. h; spelled = spell-one d l })
    (λ m d h l i. record { digit = i.digit; rest = i.rest ++ ((48 + d) ∷ []); small = i.small; no_zero = λ _. i.no_zero h; spelled = rw (spell-more m d h l, i.spelled) })

-- ---- a number above 0

pub is-digit : (b : ℕ) → is_digit b ≡ true → (48 ≤ b) × (b ≤ 57)
is-digit b e = let h = and-true _ _ e in (leb-true 48 b h.0, leb-true b 57 h.1)

pub digit-is : (d : ℕ) → d < 10 → is_digit (48 + d) ≡ true
digit-is d h = rw (le-leb 48 (48 + d) (omega arith), le-leb (48 + d) 57 (omega arith))

abbrev pub Positive : ℕ → Type 0
Positive n = (0 < n) × (n < 10 ^ 18)

-- the digits of n have been read, and k more may come
record Reach (n k : ℕ) : Type 0 where
  count : ℕ
  all : suc (count + k) ≡ 18
  low : 10 ^ count ≤ n
  high : n < 10 ^ suc count
  reads : (t : List ℕ) → read_positive (spellℕ n ++ t) ≡ read_digits k n t

reach-one : (d : ℕ) → 0 < d → d < 10 → Reach d 17
unfolding read_positive
reach-one d h l =
    let e : 48 + d - 48 ≡ d = omega arith in
    let f : is_digit (48 + d) && ltb 48 (48 + d) ≡ true = rw (digit-is d l) (lt-ltb 48 (48 + d) (omega arith)) in
    record { count = 0; all = refl; low = h; high = l; reads = λ t. rw (spell-one d l, f, read_positive, e) }

reach-more : (m d k : ℕ) → d < 10 → Reach m (suc k) → Reach (10 * m + d) k
unfolding read_digits
reach-more m d k l r =
    let e : 48 + d - 48 ≡ d = omega arith in
    let h : 0 < m = omega arith in
    record {
      count = suc r.count;
      all = omega arith;
      low = omega arith;
      high = omega arith;
      reads = λ t. rw (spell-more m d h l, append_assoc, r.reads, digit-is d l, read_digits, e);
    }

reach : (n : ℕ) → Positive n → (k : ℕ) × Reach n k
reach =
    by_digits (λ n. Positive n → (k : ℕ) × Reach n k)
    (λ d l h. (17, reach-one d h.0 l))
    (λ m d p l i h. more m d l h.1 (i (p, omega arith)))
  where
    more : (m d : ℕ) → d < 10 → 10 * m + d < 10 ^ 18 → (k : ℕ) × Reach m k → (k : ℕ) × Reach (10 * m + d) k
    more m d l h (zero, r) = let e : r.count ≡ 17 = omega arith in absurd (omega (arith, rw e at r.low))
    more m d l h (suc k, r) = (k, reach-more m d k l r)

reach-good : (n k : ℕ) → Reach n k → Positive n
reach-good n k r = (omega arith, omega (arith, r.high, pow-le-pow_right {n = 10} (omega arith) {i = suc r.count} {j = 18} (omega (arith, r.all))))

digits-stop : (k n : ℕ) (t : List ℕ) → NotNext is_digit t → read_digits k n t ≡ got n t
unfolding read_digits
digits-stop zero n t h = refl
digits-stop (suc k) n [] h = refl
digits-stop (suc k) n (b ∷ t) h = rw (h, read_digits)

abbrev above : Reader ℕ
above = record { reads = read_positive; spells = spellℕ; Good = Positive }

digits-read : (k n : ℕ) (t : List ℕ) → Reach n k → Outcome above (spellℕ n ++ t) (read_digits k n t)
unfolding read_digits
digits-read zero n t r = record { good = reach-good n zero r; parts = refl; steady = λ w l. r.reads w }
digits-read (suc k) n [] r = record { good = reach-good n (suc k) r; parts = refl; steady = λ w l. elim l [ ] }
digits-read (suc k) n (b ∷ t) r =
    on-flag (is_digit b)
    (λ e. let h = is-digit b e in
    let l : b - 48 < 10 = omega arith in
    let c : 48 + (b - 48) ≡ b = omega arith in
    let p : spellℕ (10 * n + (b - 48)) ++ t ≡ spellℕ n ++ (b ∷ t) = rw (spell-more n (b - 48) (reach-good n (suc k) r).0 l, append_assoc, c) in
    rw (e, read_digits) (rw p at (digits-read k _ t (reach-more n (b - 48) k l r))))
    (λ e. rw (e, read_digits) (record { good = reach-good n (suc k) r; parts = refl; steady = like (λ w. read_positive _ ≡ got n w) (λ w. r.reads (b ∷ w) ∙ digits-stop (suc k) n (b ∷ w) e) }))

positive-not : (t : List ℕ) → ((w : List ℕ) → Alike t w → read_positive w ≡ bad w) → Refused above t t
positive-not t h = refused-here above 1 (omega arith, omega arith) t h

positive-read : (t : List ℕ) → Outcome above t (read_positive t)
unfolding read_positive
positive-read [] = positive-not [] (λ w l. elim l [ ])
positive-read (b ∷ t) =
    on-flag _
    (λ e. let h = and-true (is_digit b) (ltb 48 b) e in
    let g = is-digit b h.0 in
    let l : b - 48 < 10 = omega arith in
    let a : 0 < b - 48 = omega (arith, ltb-true 48 b h.1) in
    let c : 48 + (b - 48) ≡ b = omega arith in
    rw (e, read_positive) (rw (spell-one (b - 48) l, c) at (digits-read 17 (b - 48) t (reach-one (b - 48) a l))))
    (λ e. rw (e, read_positive) (positive-not (b ∷ t) (like (λ w. read_positive w ≡ bad w) (λ w. rw (e, read_positive)))))

positive_back : (n : ℕ) → Positive n → (t : List ℕ) → NotNext is_digit t → read_positive (spellℕ n ++ t) ≡ got n t
positive_back n h t f = let r = reach n h in r.1.reads t ∙ digits-stop r.0 n t f

-- ---- whole numbers

sign-then : (f : ℕ → ℤ) (x : Read ℕ) → with_sign f x ≡ then_read x (λ n u. got (f n) u)
unfolding with_sign then_read
sign-then f (got n u) = refl
sign-then f (bad u) = refl

read_plain : (b : ℕ) → eqb b 45 ≡ false → eqb b 48 ≡ false → (t : List ℕ) → readℤ (b ∷ t) ≡ with_sign pos (read_positive (b ∷ t))
unfolding readℤ
read_plain b e f t = rw (e, f, readℤ)

-- what is spelled is read back
pub read-spelled : (z : ℤ) → Short z → (t : List ℕ) → NotNext is_digit t → readℤ (spellℤ z ++ t) ≡ got z t
unfolding readℤ spellℤ with_sign
read-spelled (pos zero) h t f = rw (spell-one 0 (omega arith))
read-spelled (pos (suc n)) h t f =
    let l = leading (suc n) in
    let a : 0 < l.digit = l.no_zero (omega arith) in
    let e : readℤ (spellℕ (suc n) ++ t) ≡ with_sign pos (read_positive (spellℕ (suc n) ++ t)) = rw l.spelled (read_plain _ (ne_eqb (48 + l.digit) 45 (λ e. omega arith)) (ne_eqb (48 + l.digit) 48 (λ e. omega arith)) (l.rest ++ t)) in
    e ∙ rw (positive_back (suc n) (omega arith, h) t f)
read-spelled (negsuc n) h t f = rw (positive_back (suc n) (omega arith, h) t f)

abbrev pub the_number : Reader ℤ
the_number = record { reads = readℤ; spells = spellℤ; Good = Short }

-- a sign, as a word, before a number above 0
abbrev sign_then : List ℕ → (ℕ → ℤ) → List ℕ → Read ℤ
sign_then sign f t = then_read (read_word sign true t) (λ _ u. with_sign f (read_positive u))

module _ (sign : List ℕ) (f : ℕ → ℤ) (made : (n : ℕ) → Positive n → Short (f n) × (spellℤ (f n) ≡ sign ++ spellℕ n)) where
  signed : (t : List ℕ) → ((s : List ℕ) → Alike t s → readℤ s ≡ sign_then sign f s) → Outcome the_number t (sign_then sign f t)
  signed t agree =
      both_read _ above the_number (λ _ n. f n) (λ _ n _ g. made n g) (1, (omega arith, omega arith))
      (λ _ u. with_sign f _) (λ _ u. sign-then f _) t agree _ (word_read sign true t) (λ _ u _. positive-read u)

minus-made : (n : ℕ) → Positive n → Short (neg_ℤ (pos n)) × (spellℤ (neg_ℤ (pos n)) ≡ 45 ∷ spellℕ n)
unfolding spellℤ
minus-made zero h = absurd (omega arith)
minus-made (suc n) h = (h.1, refl)

-- nothing else is read, and a refusal comes behind the beginning of a spelled number
pub number_read : (t : List ℕ) → Outcome the_number t (readℤ t)
unfolding readℤ read_word then_read spellℤ
number_read [] = refused-here the_number (pos 0) (omega arith) [] (λ w l. elim l [ ])
number_read (b ∷ t) =
    on-flag (eqb b 45)
    (λ e. rw (eqb-true b 45 e) (signed (45 ∷ []) (λ n. neg_ℤ (pos n)) minus-made (45 ∷ t) (like (λ s. readℤ s ≡ sign_then (45 ∷ []) (λ n. neg_ℤ (pos n)) s) (λ r. refl))))
    (λ e. on-flag (eqb b 48)
    (λ f. rw (eqb-true b 48 f)
    (outcome-as _ the_number (λ v h. rw h (omega arith, sym (spell-one 0 (omega arith)))) (48 ∷ t)
    (like (λ s. readℤ s ≡ read_word (48 ∷ []) (pos 0) s) (λ r. refl)) (got (pos 0) t) (word_read (48 ∷ []) (pos 0) (48 ∷ t))))
    (λ f. rw (read_plain b e f t) (signed [] pos (λ n g. (g.1, refl)) (b ∷ t) (like (λ s. readℤ s ≡ sign_then [] pos s) (λ r. read_plain b e f r)))))

pub read-spelled-only : (t : List ℕ) (z : ℤ) (u : List ℕ) → readℤ t ≡ got z u → Short z × (t ≡ spellℤ z ++ u)
read-spelled-only t z u e = let k : Taken the_number t z u = rw e at (number_read t) in (k.good, k.parts)

pub read-refused : (t u : List ℕ) → readℤ t ≡ bad u → Refused the_number t u
read-refused t u e = rw e at (number_read t)
