-- A value in its limits, and every value of a list: by place, with a default that lies in the limits, so that no length is asked. What two such values are apart is at most 20,000, and its square at most 400,000,000.
use Rattle.meaning_numbers.specs.Sum.{Σℕ}
use Rattle.meaning_numbers.proofs.Prelude.{◌≡◌, sym, subst, true, false, not, ⊎_elim, List, None, ℕ, suc, ◌+◌, ◌*◌, ◌<◌, ◌≤◌, ◌-◌, dec_le, arith, T, length, List·get_d-eq-default, take, length-take, ℤ, pos, negsuc, ◌-ℤ◌, nat_abs, zarith, z-sub, z-abs, is_true, is_false, decided}
use Rattle.meaning_numbers.proofs.{Sum.Σℕ-le, Root.sq-le, Between.Between, Between.within-yes, Between.yes-within}
use Rattle.meaning_curves.specs.{Limits.value_in, Limits.first_outside, Curve.at, Curve.stretch, Straight.cost}
use Rattle.meaning_curves.proofs.Limits.{values-in, in-values}

abbrev pub InLimits : ℤ → Type 0
InLimits x = Between (negsuc 9999) x (pos 10000)

pub record AllIn (s : List ℤ) : Type 0 where
  pub at : (k : ℕ) → InLimits (at s k)

-- past the end of a list stands the default, which is in the limits
pub all_in : (s : List ℤ) → ((k : ℕ) → k < length s → InLimits (at s k)) → AllIn s
all_in s h = record {
  at = λ k. elim (dec_le (suc k) (length s)) [
    | yes l ↦ h k l
    | no f ↦ rw (List·get_d-eq-default s (pos 0) {n = k} (omega arith)) (record { low = omega zarith; high = omega zarith })
  ];
}

-- the test, as code answers it
pub value-yes : {x : ℤ} → InLimits x → value_in x ≡ true
value-yes h = is_true _ (yes-within h)

pub value-no : (x : ℤ) → (InLimits x → ⊥) → value_in x ≡ false
value-no x f = ⊎_elim (λ t. absurd (f (within-yes _ _ x t))) (is_false _) (decided (value_in x))

pub yes-value : (x : ℤ) → value_in x ≡ true → InLimits x
yes-value x e = within-yes _ _ x (subst T (sym e) tt)

pub no_value : (x : ℤ) → value_in x ≡ false → T (not (value_in x))
no_value x e = rw e tt

-- no value is outside exactly where all are in
pub none-outside : (s : List ℤ) → first_outside s ≡ None → AllIn s
none-outside s e = record { at = λ k. within-yes _ _ _ (values-in s e k) }

pub outside-none : {s : List ℤ} → AllIn s → first_outside s ≡ None
outside-none {s} h = in-values s (λ j l. yes-within (h.at j))

-- ---- sizes

pub size-le : {x : ℤ} → InLimits x → nat_abs x ≤ 10000
size-le {x} h = omega (zarith, z-abs x, h.low, h.high)

pub gap-le : {x y : ℤ} → InLimits x → InLimits y → nat_abs (x -ℤ y) ≤ 20000
gap-le {x} {y} h k = omega (zarith, z-sub x y, z-abs (x -ℤ y), h.low, h.high, k.low, k.high)

pub cost-le : {x y : ℤ} → InLimits x → InLimits y → cost x y ≤ 400000000
cost-le h k = omega (arith, sq-le (gap-le h k))

-- n squared differences from place p on
pub costs-le : {s q : List ℤ} → AllIn s → AllIn q → (from p n : ℕ) → Σℕ n (λ k. cost (stretch s from (p + k)) (at q (p + k))) ≤ 400000000 * n
costs-le {s} {q} h i from p n = Σℕ-le n 400000000 (λ k. cost (stretch s from (p + k)) (at q (p + k))) (λ k l. cost-le (h.at _) (i.at (p + k)))

pub front_long : (n : ℕ) (l : List ℤ) → n ≤ length l → length (take (n - 0) l) ≡ n
front_long n l h = omega (arith, length-take (n - 0) l)
