-- A buffer is written entry by entry (`written_none`, `written-more`), and an outcome is one of two (`outcome-yes`, `outcome-no`). Room holds the last normalised values (`normal-next`).
use borrow.Author.Count.{below_none, below_more}
use Rattle.meaning_numbers.proofs.Prelude.{◌≡◌, refl, sym, subst, ◌∙◌, List, ℕ, ◌+◌, ◌<◌, arith, dec_lt, ℤ, length, set, length-set, get_or-set_same, get_or-set_other}
use Rattle.try_c_distance.specs.{Outcome.Written, Outcome.Outcome, Told.NormalRoom, Told.LastNormal}

-- ---- entry by entry

module _ {A : Type 0} {x : A} {P : ℕ → A → Type 0} where
  pub written_none : (l : List A) → Written x P 0 l l
  written_none l = record { long = refl; made = below_none _; rest = λ j h. refl }

  pub written-more : {n : ℕ} {old new : List A} (v : A) → Written x P n old new → n < length old → P n v → Written x P (n + 1) old (set new n v)
  written-more {n} {old} {new} v w room h =
      let here : n < length new = omega arith in record {
        long = length-set new n v ∙ w.long;
        made = below_more _ n (λ j l. subst (P j) (sym (get_or-set_other new n j v x (λ e. omega arith))) (w.made j l)) (subst (P n) (sym (get_or-set_same new n v x here)) h);
        rest = λ j l. get_or-set_other new n j v x (λ e. omega arith) ∙ w.rest j (omega arith);
      }

  pub written_all : {n k : ℕ} {old new : List A} → n ≡ k → Written x P n old new → Written x P k old new
  written_all {old = old} {new} e w = rw e at w

-- ---- the two outcomes

module _ {A : Type 0} {asked : Type 0} {yes no r : A} {done kept : Type 0} where
  pub outcome-yes : asked → r ≡ yes → done → Outcome asked yes no r done kept
  outcome-yes a e d = record { taken = λ b. (e, d); refused = λ f. absurd (f a) }

  pub outcome-no : (asked → ⊥) → r ≡ no → kept → Outcome asked yes no r done kept
  outcome-no f e k = record { taken = λ a. absurd (f a); refused = λ g. (e, k) }

-- ---- room for normalised values

pub normal-none : (s : List ℤ) (m : ℕ) (l : List ℤ) → LastNormal s m 0 l l
normal-none s m l = record { last = λ j h. absurd (omega arith); none = λ f. refl }

pub normal-next : {s : List ℤ} {m n : ℕ} {old mid new : List ℤ} → LastNormal s m n old mid → NormalRoom s m n mid new → LastNormal s m (n + 1) old new
normal-next {s} {m} {n} a h = record {
  last = λ j l some flat. elim (dec_lt j n) [
    | yes b ↦ rw (h.same (flat n b (omega arith))) (a.last j b some (λ k i o. flat k i (omega arith)))
    | no f ↦ let e : j ≡ n = omega arith in rw e (h.made (rw e at some))
  ];
  none = λ flat. h.same (flat n (omega arith)) ∙ a.none (λ j l. flat j (omega arith));
}

pub normal-all : {s : List ℤ} {m n k : ℕ} {old new : List ℤ} → n ≡ k → LastNormal s m n old new → LastNormal s m k old new
normal-all {s} {m} {old = old} {new} e a = rw e at a
