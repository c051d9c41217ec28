-- Laws of specs/Number.
use Rattle.meaning_numbers.proofs.Prelude.{◌≡◌, true, false, ℕ, suc, ◌<◌, ◌≤◌, ◌^◌, arith, ltb, eqb, ltb-true, ltb-false, lt-ltb, le-ltb, None, Some}
use Rattle.meaning_text.proofs.Reading.{on-flag, false-true}
use Rattle.text_numbers.specs.declared.Numeral.TheVariants.{Start, Sign, Zero, Plus, Less}
use Rattle.text_numbers.specs.{declared.Numeral.Numeral, Number.within, Number.fits_behind, Number.grown, Number.first, Number.num_step, Number.NumGood}

-- ---- what the tests say

pub within-true : (lo hi b : ℕ) → within lo hi b ≡ true → (lo ≤ b) × (b ≤ hi)
within-true lo hi b e =
    on-flag _
    (λ t. false-true (rw t at e))
    (λ f. let g : ltb b (suc hi) ≡ true = rw f at e in (ltb-false b lo f, omega (arith, ltb-true b _ g)))

pub within-yes : (lo hi b : ℕ) → lo ≤ b → b ≤ hi → within lo hi b ≡ true
within-yes lo hi b h k = rw (le-ltb b lo h) (lt-ltb b _ (omega arith))

pub within-false : (lo hi b : ℕ) → ((lo ≤ b) × (b ≤ hi) → ⊥) → within lo hi b ≡ false
within-false lo hi b h = on-flag _ (λ e. absurd (h (within-true lo hi b e))) (λ e. e)

pub behind-true : (m b : ℕ) → fits_behind m b ≡ true → (48 ≤ b) × (b ≤ 57) × (m < 100000000000000000)
behind-true m b e =
    on-flag _
    (λ t. let d = within-true 48 57 b t in (d.0, d.1, ltb-true m 100000000000000000 (rw t at e)))
    (λ f. false-true (rw f at e))

-- ---- a number of at most 18 digits stays one

none-some : {A : Type 0} {n : Numeral} → None ≡ Some n → A
none-some e = let z : ◌≡◌ {A = ℕ} 0 1 = cc in absurd (omega arith)

some_same : {m n : Numeral} → Some m ≡ Some n → m ≡ n
some_same e = cc

module _ (f : ℕ → Numeral) (good : (m : ℕ) → m < 10 ^ 18 → NumGood (f m)) where
  first_good : (b : ℕ) (n : Numeral) → first f b ≡ Some n → NumGood n
  first_good b n e =
      on-flag (within 49 57 b)
      (λ t. rw (← some_same (rw t at e)) (good _ (omega (arith, (within-true 49 57 b t).1))))
      (λ t. none-some (rw t at e))

  grown-good : (m b : ℕ) (n : Numeral) → grown f m b ≡ Some n → NumGood n
  grown-good m b n e =
      on-flag (fits_behind m b)
      (λ t. rw (← some_same (rw t at e)) (good _ (omega (arith, (behind-true m b t).1, (behind-true m b t).2))))
      (λ t. none-some (rw t at e))

pub good-step : (s : Numeral) (b : ℕ) (n : Numeral) → num_step s b ≡ Some n → NumGood n
unfolding num_step
good-step Start b n e =
    on-flag (eqb b 45)
    (λ t. rw (← some_same (rw t at e)) tt)
    (λ t. on-flag (eqb b 48) (λ u. rw (← some_same (rw (t, u) at e)) tt) (λ u. first_good Plus (λ m h. h) b n (rw (t, u) at e)))
good-step Sign b n e = first_good Less (λ m h. h) b n e
good-step Zero b n e = none-some e
good-step (Plus m) b n e = grown-good Plus (λ m h. h) m b n e
good-step (Less m) b n e = grown-good Less (λ m h. h) m b n e
