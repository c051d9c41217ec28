-- A number, and then on from there: read byte by byte it comes to what `readℤ` says.
use Rattle.meaning_numbers.proofs.Prelude.{◌≡◌, refl, sym, ◌∙◌, fun_ext, List, [], ◌∷◌, true, false, ℕ, zero, suc, ◌+◌, ◌*◌, ◌-◌, ◌<◌, ◌≤◌, ◌^◌, pow-le-pow_right, arith, eqb, ℤ, pos, neg_ℤ, ltb-true, lt-ltb, le-ltb, le-leb, Option, None, Some}
use Rattle.meaning_text.specs.Form.{number, then_read, read}
use Rattle.meaning_text.specs.Number.{bad, is_digit, read_digits, read_positive, with_sign, readℤ}
use Rattle.meaning_text.proofs.{Reading.on-flag, Reading.and-true, Reading.false-true, Number.is-digit, Onward.Rest, Onward.read_then}
use Rattle.text_numbers.specs.Number.{num_step, whole, within, grown, first, by_option}
use Rattle.text_numbers.specs.declared.Numeral.TheVariants.{Start, Sign, Zero, Plus, Less}
use Rattle.text_numbers.specs.declared.Numeral.{Numeral}
use Rattle.text_numbers.proofs.Number.{within-yes, within-false}

-- on from a number that has ended, or a bad byte
abbrev pub whole_then : {A : Type 0} → Option ℤ → (ℤ → Rest A) → Rest A
whole_then w k t = by_option w (λ z. k z t) (bad t)

-- the number of which n has been read, and then on from there
unfoldable pub number_then : {A : Type 0} → Numeral → (ℤ → Rest A) → Rest A
number_then n k [] = whole_then (whole n) k []
number_then n k (b ∷ t) = by_option (num_step n b) (λ m. number_then m k t) (whole_then (whole n) k (b ∷ t))

module _ {A : Type 0} (k : ℤ → Rest A) (n : Numeral) where
  pub number_more : (b : ℕ) (m : Numeral) (t : List ℕ) → num_step n b ≡ Some m → number_then n k (b ∷ t) ≡ number_then m k t
  unfolding number_then
  number_more b m t e = rw e

  pub number-stop : (b : ℕ) (t : List ℕ) → num_step n b ≡ None → number_then n k (b ∷ t) ≡ whole_then (whole n) k (b ∷ t)
  unfolding number_then
  number-stop b t e = rw e

-- ---- it is `readℤ`

-- m has as many digits as leave k of 18
record Left (m k : ℕ) : Type 0 where
  count : ℕ
  all : suc (count + k) ≡ 18
  low : 10 ^ count ≤ m
  high : m < 10 ^ suc count

left_one : (d : ℕ) → 0 < d → d < 10 → Left d 17
left_one d h l = record { count = 0; all = refl; low = h; high = l }

left-more : (m d k : ℕ) → d < 10 → Left m (suc k) → Left (10 * m + d) k
left-more m d k l r = record { count = suc r.count; all = omega arith; low = omega arith; high = omega arith }

left-room : (m k : ℕ) → Left m (suc k) → m < 100000000000000000
left-room m k r = omega (arith, r.high, pow-le-pow_right {n = 10} (omega arith) {i = suc r.count} {j = 17} (omega (arith, r.all)))

left-full : (m : ℕ) → Left m 0 → 100000000000000000 ≤ m
left-full m r = let e : r.count ≡ 17 = omega (arith, r.all) in omega (arith, rw e at r.low)

digit-within : (b : ℕ) → is_digit b ≡ true → within 48 57 b ≡ true
digit-within b e = let h = is-digit b e in within-yes 48 57 b h.0 h.1

no-digit-within : (b : ℕ) → is_digit b ≡ false → within 48 57 b ≡ false
no-digit-within b e = within-false 48 57 b (λ h. absurd (clash (rw (le-leb 48 b h.0, le-leb b 57 h.1) at e)))
  where
    clash : true ≡ false → ⊥
    clash e = false-true (sym e)

-- digits behind m, with a sign or none
module _ {A : Type 0} (k : ℤ → Rest A) (f : ℕ → Numeral) (g : ℕ → ℤ) (steps : (m b : ℕ) → num_step (f m) b ≡ grown f m b) (is : (m : ℕ) → whole (f m) ≡ Some (g m)) where
  full : (m b : ℕ) → Left m 0 → grown f m b ≡ None
  full m b r = on-flag (within 48 57 b) (λ t. rw (t, le-ltb m 100000000000000000 (left-full m r))) (λ t. rw t)

  stops : (m : ℕ) (b : ℕ) (t : List ℕ) → grown f m b ≡ None → number_then (f m) k (b ∷ t) ≡ k (g m) (b ∷ t)
  stops m b t e = number-stop k (f m) b t (steps m b ∙ e) ∙ rw (is m)

  digits-then : (t : List ℕ) (m j : ℕ) → Left m j → then_read (with_sign g (read_digits j m t)) k ≡ number_then (f m) k t
  unfolding read_digits with_sign then_read number_then
  digits-then [] m zero r = rw (is m)
  digits-then [] m (suc j) r = rw (is m)
  digits-then (b ∷ t) m zero r = sym (stops m b t (full m b r))
  digits-then (b ∷ t) m (suc j) r =
      on-flag _
      (λ e. let h = is-digit b e in
      let s : grown f m b ≡ Some (f (10 * m + (b - 48))) = rw (digit-within b e, lt-ltb m 100000000000000000 (left-room m j r)) in
      rw (e, read_digits) (digits-then t _ j (left-more m _ j (omega arith) r) ∙ sym (number_more k (f m) b _ t (steps m b ∙ s))))
      (λ e. rw (e, read_digits) (sym (stops m b t (rw (no-digit-within b e)))))

  -- the first digit
  module _ (s : Numeral) (partial : whole s ≡ None) where
    first_then : (b : ℕ) (t : List ℕ) → num_step s b ≡ first f b → then_read (with_sign g (read_positive (b ∷ t))) k ≡ number_then s k (b ∷ t)
    unfolding read_positive with_sign then_read
    first_then b t e =
        on-flag _
        (λ h. let i = and-true _ _ h in
        let d = is-digit b i.0 in
        let p : 48 < b = ltb-true 48 b i.1 in
        let q : first f b ≡ Some (f (b - 48)) = rw (within-yes 49 57 b (omega arith) d.1) in
        rw (h, read_positive) (digits-then t _ 17 (left_one _ (omega arith) (omega arith)) ∙ sym (number_more k s b _ t (e ∙ q))))
        (λ h. let q = within-false 49 57 b (λ d. true-false (rw (le-leb 48 b (omega arith), le-leb b 57 d.1, lt-ltb 48 b (omega arith)) at h)) in
        rw (h, read_positive) (sym (number-stop k s b t (e ∙ rw q) ∙ rw partial)))
      where
        true-false : true ≡ false → ⊥
        true-false e = false-true (sym e)

module _ {A : Type 0} (k : ℤ → Rest A) where
  minus-then : (t : List ℕ) → then_read (with_sign (λ n. neg_ℤ (pos n)) (read_positive t)) k ≡ number_then Sign k t
  unfolding read_positive with_sign then_read number_then num_step whole
  minus-then [] = refl
  minus-then (b ∷ t) = first_then k Less (λ n. neg_ℤ (pos n)) (λ m b. refl) (λ m. refl) Sign refl b t refl

  zero-then : (t : List ℕ) → k (pos 0) t ≡ number_then Zero k t
  unfolding number_then num_step whole
  zero-then [] = refl
  zero-then (b ∷ t) = refl

  plain_then : (b : ℕ) (t : List ℕ) → eqb b 45 ≡ false → eqb b 48 ≡ false → then_read (with_sign pos (read_positive (b ∷ t))) k ≡ number_then Start k (b ∷ t)
  unfolding num_step whole
  plain_then b t e f = first_then k Plus pos (λ m b. refl) (λ m. refl) Start refl b t (rw (e, f))

  starts-then : (t : List ℕ) → then_read (readℤ t) k ≡ number_then Start k t
  unfolding readℤ then_read number_then num_step whole
  starts-then [] = refl
  starts-then (b ∷ t) =
      on-flag (eqb b 45)
      (λ e. rw (e, readℤ) (minus-then t))
      (λ e. on-flag (eqb b 48) (λ g. rw (e, g, readℤ) (zero-then t)) (λ g. rw (e, g, readℤ) (plain_then b t e g ∙ number_is b t e g)))
    where
      number_is : (b : ℕ) (t : List ℕ) → eqb b 45 ≡ false → eqb b 48 ≡ false → number_then Start k (b ∷ t) ≡ by_option (first Plus b) (λ m. number_then m k t) (bad (b ∷ t))
      number_is b t e g = rw (e, g)

  pub number-then : read_then number k ≡ number_then Start k
  unfolding read read_then
  number-then = fun_ext starts-then
