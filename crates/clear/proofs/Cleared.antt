-- A buffer cleared from a place on: entry by entry (`Clearing`), and what it holds then.
use Prim.Native.Nat.{ℕ, suc, ◌+◌, ◌-◌, ◌<◌, ◌≤◌}
use lib.ListN.{length, get_or, take, set, replicate, length-take, length-set, length-replicate, get_or-replicate, get_or-eq_default}
use lib.Seq.{take_all, take-suc-set, append_snoc}
use mathlib.Core.List.{List, [], ◌∷◌, ◌++◌, append-nil}
use mathlib.Core.Path.{◌≡◌, refl, ◌∙◌}
use native.Mathlib.Decide.{dec_lt}
use native.Mathlib.Numerals.{add-one}
use native.Mathlib.Omega.{arith}
use Rattle.clear.specs.Clear.{cleared_to, cleared_from}

cases : (cleared_from 1 (5 ∷ 6 ∷ 7 ∷ []) ≡ 5 ∷ 0 ∷ 0 ∷ []) × (cleared_from 4 (5 ∷ []) ≡ 5 ∷ [])
unfolding cleared_to
cases = (refl, refl)

-- the loop has come to i: with the entries from i on cleared, all is
pub record Clearing {A : Type 0} (zero : A) (from i : ℕ) (old new : List A) : Type 0 where
  pub long : length new ≡ length old
  pub rest : cleared_to zero i new ≡ cleared_to zero from old

module _ {A : Type 0} (zero : A) where
  pub clear-starts : (from : ℕ) (old : List A) → Clearing zero from from old old
  clear-starts from old = record { long = refl; rest = refl }

  pub clear_next : {from i : ℕ} {old new : List A} → i < length new → Clearing zero from i old new → Clearing zero from (i + 1) old (set new i zero)
  unfolding cleared_to
  clear_next {i = i} {new = new} h c =
      let e : length new - i ≡ suc (length new - suc i) = omega arith in record {
        long = length-set new i zero ∙ c.long;
        rest = rw (add-one i, length-set new i zero, take-suc-set new i zero h, append_snoc (take i new) zero (replicate (length new - suc i) zero)) (rw e at c.rest);
      }

  pub clear-ends : {from i : ℕ} {old new : List A} → length new ≤ i → Clearing zero from i old new → new ≡ cleared_to zero from old
  unfolding cleared_to
  clear-ends {i = i} {new = new} h c = let e : length new - i ≡ 0 = omega arith in rw (e, take_all i new h, append-nil) at c.rest

-- ---- what a cleared buffer holds

pub cleared-all : (l : List ℕ) → cleared_from 0 l ≡ replicate (length l) 0
unfolding cleared_to
cleared-all l = let e : length l - 0 ≡ length l = omega arith in rw e

pub cleared-zero : {new : List ℕ} (l : List ℕ) → new ≡ cleared_from 0 l → (x : ℕ) → get_or new x 0 ≡ 0
cleared-zero l e x = rw (e, cleared-all l) (elim (dec_lt x (length l)) [
  | yes h ↦ get_or-replicate (length l) x 0 0 h
  | no f ↦ get_or-eq_default (replicate (length l) 0) 0 {n = x} (omega (arith, length-replicate {A = ℕ} (length l) 0))
])

-- by the length of what stays
pub cleared-front : (from : ℕ) (l : List ℕ) → cleared_from from l ≡ take from l ++ replicate (length l - length (take from l)) 0
unfolding cleared_to
cleared-front from l = let e : length l - length (take from l) ≡ length l - from = omega (arith, length-take from l) in rw e
