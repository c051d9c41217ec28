-- Laws of specs/Marks.
use Rattle.meaning_numbers.specs.Sum.{bit}
use Rattle.meaning_numbers.proofs.Prelude.{◌≡◌, refl, sym, ap, ◌∙◌, true, false, cond, or-true, List, [], ◌∷◌, ℕ, zero, suc, ◌+◌, ◌-◌, ◌<◌, ◌≤◌, arith, dec_lt, leb, eqb, get_or, length, set, length-set, length-append, get_or-set_same, get_or-set_other, leb-true, leb-false, eqb-true, eqb-false, eq-eqb, ne_eqb, by-test, clash}
use Rattle.sums_slide.specs.{Change.RowRun, Picked.picked, Picked.Appended, Marks.met, Marks.flagged, Marks.Flags, Marks.lit}
use Rattle.sums_slide.proofs.Picked.{picked-cong, picked-yes, picked-no, picked_more, append-one}

pub lit-yes : (flags : List ℕ) (base x : ℕ) → (get_or flags x 0 ≡ 0 → ⊥) → lit flags base (base + x) ≡ true
unfolding lit
lit-yes flags base x h = let e : base + x - base ≡ x = omega arith in rw (e, ne_eqb (get_or flags x 0) 0 h)

pub lit-no : (flags : List ℕ) (base x : ℕ) → get_or flags x 0 ≡ 0 → lit flags base (base + x) ≡ false
unfolding lit
lit-no flags base x h = let e : base + x - base ≡ x = omega arith in rw (e, h)

-- the flags of all windows tell the numbers that are met
pub flags-lit : {row : ℕ → ℕ} {n base : ℕ} {flags : List ℕ} → Flags row n base flags → (x : ℕ) → x < length flags → lit flags base (base + x) ≡ met row n (base + x)
unfolding bit
flags-lit {row} {n} {base} {flags} f x b = by-test (met row n (base + x))
    (λ t. lit-yes flags base x (λ e. let q : ◌≡◌ {A = ℕ} 1 0 = sym (rw t at (f.flag x b)) ∙ e in omega arith) ∙ sym t)
    (λ t. lit-no flags base x (rw t at (f.flag x b)) ∙ sym t)

pub met-yes : (row : ℕ → ℕ) (n j k : ℕ) → j < n → row j ≡ k → met row n k ≡ true
unfolding met
met-yes row zero j k l e = absurd (omega arith)
met-yes row (suc n) j k l e = elim (dec_lt j n) [
  | yes h ↦ rw (met-yes row n j k h e) (or-true (eqb (row n) k))
  | no f ↦ let q : j ≡ n = omega arith in rw (eq-eqb (row n) k (sym (ap row q) ∙ e))
]

pub record Met (row : ℕ → ℕ) (n k : ℕ) : Type 0 where
  pub at : ℕ
  pub below : at < n
  pub is : row at ≡ k

pub yes-met : (row : ℕ → ℕ) (n k : ℕ) → met row n k ≡ true → Met row n k
unfolding met
yes-met row zero k h = clash h refl
yes-met row (suc n) k h = by-test (eqb (row n) k)
    (λ t. record { at = n; below = omega arith; is = eqb-true (row n) k t })
    (λ f. let m = yes-met row n k (rw f at h) in record { at = m.at; below = omega (arith, m.below); is = m.is })

pub met-none : (row : ℕ → ℕ) (n k : ℕ) → ((j : ℕ) → j < n → row j ≡ k → ⊥) → met row n k ≡ false
met-none row n k h = by-test (met row n k) (λ t. let m = yes-met row n k t in absurd (h m.at m.below m.is)) (λ f. f)

pub met_start : (row : ℕ → ℕ) (k : ℕ) → met row 0 k ≡ false
unfolding met
met_start row k = refl

-- a whole run at once
module _ (row : ℕ → ℕ) (n from r : ℕ) (h : RowRun row n from r) where
  met-here : met row r (row from) ≡ true
  met-here = met-yes row r from (row from) h.ahead refl

  met-else : (k : ℕ) → (row from ≡ k → ⊥) → met row r k ≡ met row from k
  met-else k f = by-test (met row from k)
      (λ t. let m = yes-met row from k t in met-yes row r m.at k (omega (arith, m.below, h.ahead)) m.is ∙ sym t)
      (λ g. met-none row r k (λ j l e. elim (dec_lt j from) [
        | yes b ↦ clash (met-yes row from j k b e) g
        | no b ↦ f (sym (h.same j l (omega arith)) ∙ e)
      ]) ∙ sym g)

  pub flags-run : (base : ℕ) (l : List ℕ) → Flags row from base l → Flags row r base (flagged l base (row from))
  unfolding flagged bit
  flags-run base l g = record { flag = λ x b. by-test (leb base (row from)) (λ t. near x t (rw t at b)) (λ f. far x f (rw f at b)) }
    where
      near : (x : ℕ) → leb base (row from) ≡ true → x < length (set l (row from - base) 1) → get_or (cond (leb base (row from)) (set l (row from - base) 1) l) x 0 ≡ bit (met row r (base + x))
      near x t b =
          let a = leb-true base (row from) t in
          let m : x < length l = omega (arith, length-set l (row from - base) 1) in
          rw t (by-test (eqb (row from) (base + x))
          (λ u. let e = eqb-true (row from) (base + x) u in let q : row from - base ≡ x = omega arith in
          rw (q, get_or-set_same l x 1 0 m, ← e, met-here))
          (λ u. let e : (row from ≡ base + x) → ⊥ = eqb-false (row from) (base + x) u in
          get_or-set_other l (row from - base) x 1 0 (λ q. e (omega arith)) ∙ g.flag x m ∙ ap bit (sym (met-else (base + x) e))))

      far : (x : ℕ) → leb base (row from) ≡ false → x < length l → get_or (cond (leb base (row from)) (set l (row from - base) 1) l) x 0 ≡ bit (met row r (base + x))
      far x f b = let a = leb-false base (row from) f in rw f (g.flag x b ∙ ap bit (sym (met-else (base + x) (λ e. omega arith))))

pub length-flagged : (l : List ℕ) (base k : ℕ) → length (flagged l base k) ≡ length l
unfolding flagged
length-flagged l base k = by-test (leb base k) (λ t. rw t (length-set l (k - base) 1)) (λ f. rw f)

pub flags-start : (row : ℕ → ℕ) (base : ℕ) (l : List ℕ) → ((x : ℕ) → x < length l → get_or l x 0 ≡ 0) → Flags row 0 base l
unfolding bit
flags-start row base l h = record { flag = λ x b. h x b ∙ rw (met_start row (base + x)) }

pub lit-picked : (row : ℕ → ℕ) (n base m : ℕ) (flags : List ℕ) → Flags row n base flags → length flags ≡ m → picked (lit flags base) base (length flags) ≡ picked (met row n) base m
lit-picked row n base m flags f e = picked-cong (lit flags base) (met row n) base (length flags) (flags-lit f) ∙ ap (picked (met row n) base) e

-- ---- a turn of collecting

module _ (flags : List ℕ) (base x : ℕ) {old new : List ℕ} {k r : ℕ} (less : x < length flags) (a : Appended (picked (lit flags base) base x) k r old new) where
  -- where the flag is set there is room for one more
  pub collect-room : (get_or flags x 0 ≡ 0 → ⊥) → k + length (picked (lit flags base) base (length flags)) ≤ length old → r < length new
  collect-room h room =
      let p = lit flags base in
      let e : length flags ≡ x + 1 + (length flags - (x + 1)) = omega arith in
      omega (
        arith,
        a.count,
        a.long,
        ap (λ (m : ℕ). length (picked p base m)) e,
        picked_more p base (x + 1) (length flags - (x + 1)),
        ap length (picked-yes p base x (lit-yes flags base x h)),
        length-append (picked p base x) ((base + x) ∷ []),
      )

  pub collect-yes : (get_or flags x 0 ≡ 0 → ⊥) → r < length new → Appended (picked (lit flags base) base (x + 1)) k (r + 1) old (set new r (base + x))
  collect-yes h room = rw (picked-yes (lit flags base) base x (lit-yes flags base x h)) (append-one (base + x) a room)

  pub collect-no : get_or flags x 0 ≡ 0 → Appended (picked (lit flags base) base (x + 1)) k r old new
  collect-no h = rw (picked-no (lit flags base) base x (lit-no flags base x h)) a
