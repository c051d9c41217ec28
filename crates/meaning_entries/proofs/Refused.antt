-- The tables of refusals are total and exclusive: a call is refused by exactly one line, the first that applies, or by none, and then no line applies. A table in two parts is refused by the first part or else by the second (`first-left`, `first-right`). By induction on the table.
use Rattle.meaning_numbers.proofs.Prelude.{◌≡◌, refl, sym, ◌∙◌, subst₂, Bool, true, false, not, cond, ◌&&◌, List, [], ◌∷◌, ◌++◌, ◌⊎◌, inl, inr, Option, None, Some, ℕ, arith, T, eqb, is_false, two-tests}
use Rattle.meaning_entries.specs.Refusal.{Condition, first_refusal, at_zero, length_outside, value_outside, window_outside, width_outside, merge_outside, query_length_outside, query_below_window, band_outside, threshold_outside, scale_or_shift_outside, count_outside, flat_query, unreadable, ill_formed, fewer_windows, more_windows, buffer_short, list_short}

-- no line applies
pub data AllPass : List Condition → Type 0 where
  end : AllPass []
  more : {c : Condition} {l : List Condition} → c.place ≡ None → AllPass l → AllPass (c ∷ l)

-- the first line that applies has the number n and the place p
pub data First : List Condition → ℕ → ℕ → Type 0 where
  here : {c : Condition} {l : List Condition} {p : ℕ} → c.place ≡ Some p → First (c ∷ l) c.number p
  later : {c : Condition} {l : List Condition} {n p : ℕ} → c.place ≡ None → First l n p → First (c ∷ l) n p

first-yes : (c : Condition) (l : List Condition) (p : ℕ) → c.place ≡ Some p → first_refusal (c ∷ l) ≡ Some (c.number, p)
unfolding first_refusal
first-yes c l p e = rw (e, first_refusal)

first-no : (c : Condition) (l : List Condition) → c.place ≡ None → first_refusal (c ∷ l) ≡ first_refusal l
unfolding first_refusal
first-no c l e = rw (e, first_refusal)

pub passed_is : {l : List Condition} → AllPass l → first_refusal l ≡ None
unfolding first_refusal
passed_is end = refl
passed_is (more {c} {l} e h) = first-no c l e ∙ passed_is h

pub first-is : {l : List Condition} {n p : ℕ} → First l n p → first_refusal l ≡ Some (n, p)
first-is (here {c} {l} {p} e) = first-yes c l p e
first-is (later {c} {l} e h) = first-no c l e ∙ first-is h

-- one of the two holds
pub judged : (l : List Condition) → AllPass l ⊎ ((n : ℕ) × (p : ℕ) × First l n p)
judged [] = inl end
judged (c ∷ l) = by _ refl (judged l)
  where
    by : (o : Option ℕ) → c.place ≡ o → AllPass l ⊎ ((n : ℕ) × (p : ℕ) × First l n p) → AllPass (c ∷ l) ⊎ ((n : ℕ) × (p : ℕ) × First (c ∷ l) n p)
    by (Some p) e r = inr (c.number, p, here e)
    by None e (inl h) = inl (more e h)
    by None e (inr h) = inr (h.0, h.1, later e h.2)

-- and what `first_refusal` says is which
none-some : {A B : Type 0} {a : A} → None ≡ Some a → B
none-some e = let z : ◌≡◌ {A = ℕ} 0 1 = cc in absurd (omega arith)

pub is-passed : (l : List Condition) → first_refusal l ≡ None → AllPass l
is-passed l e = by (judged l)
  where
    by : AllPass l ⊎ ((n : ℕ) × (p : ℕ) × First l n p) → AllPass l
    by (inl h) = h
    by (inr h) = none-some (sym e ∙ first-is h.2)

-- two refusals that are the same have the same number and the same place
same-refusal : {r t : ℕ × ℕ} → Some r ≡ Some t → (r.0 ≡ t.0) × (r.1 ≡ t.1)
same-refusal {r} {t} e = let q : r ≡ t = cc in (rw q, rw q)

pub is-first : (l : List Condition) (n p : ℕ) → first_refusal l ≡ Some (n, p) → First l n p
is-first l n p e = by (judged l)
  where
    by : AllPass l ⊎ ((m : ℕ) × (k : ℕ) × First l m k) → First l n p
    by (inl h) = none-some (sym (passed_is h) ∙ e)
    by (inr h) = let q = same-refusal (sym (first-is h.2) ∙ e) in subst₂ (First l) q.0 q.1 h.2

-- a call that one line refuses no other refuses, and where none applies none refuses
pub exclusive : {l : List Condition} {n p : ℕ} {B : Type 0} → First l n p → AllPass l → B
exclusive f h = none-some (sym (passed_is h) ∙ first-is f)

pub first-only : {l : List Condition} {n m p k : ℕ} → First l n p → First l m k → (n ≡ m) × (p ≡ k)
first-only f g = same-refusal (sym (first-is f) ∙ first-is g)

-- ---- a table in two parts

pub first-left : {a : List Condition} {n p : ℕ} (b : List Condition) → First a n p → First (a ++ b) n p
first-left b (here e) = here e
first-left b (later e f) = later e (first-left b f)

pub first-right : {a : List Condition} (b : List Condition) → AllPass a → first_refusal (a ++ b) ≡ first_refusal b
first-right b end = refl
first-right b (more {c} {l} e h) = first-no c _ e ∙ first-right b h

-- the first line that has the number n
unfoldable pub numbered : ℕ → List Condition → Condition
numbered n [] = record { number = n; place = None }
numbered n (c ∷ l) = cond (eqb c.number n) c (numbered n l)

-- the lines behind it
unfoldable pub behind : ℕ → List Condition → List Condition
behind n [] = []
behind n (c ∷ l) = cond (eqb c.number n) l (behind n l)

-- no line has the number n
unfoldable pub lacks : ℕ → List Condition → Bool
lacks n [] = true
lacks n (c ∷ l) = not (eqb c.number n) && lacks n l

pub first-lacks : {l : List Condition} {n p : ℕ} (k : ℕ) → T (lacks k l) → First l n p → eqb n k ≡ false
unfolding lacks
first-lacks k t (here {c} {l} e) = is_false _ (two-tests (not (eqb c.number k)) (lacks k l) t).0
first-lacks k t (later {c} {l} e f) = first-lacks k (two-tests (not (eqb c.number k)) (lacks k l) t).1 f

-- a table in two parts passes where both do
pub passed-both : (a b : List Condition) → AllPass (a ++ b) → AllPass a × AllPass b
passed-both [] b h = (end, h)
passed-both (c ∷ a) b (more e h) = let k = passed-both a b h in (more e k.0, k.1)

pub passed-join : {a b : List Condition} → AllPass a → AllPass b → AllPass (a ++ b)
passed-join end k = k
passed-join (more e h) k = more e (passed-join h k)

-- two tables that refuse the same behind a part that both have
pub same-behind : (a x y : List Condition) → (AllPass a → first_refusal x ≡ first_refusal y) → first_refusal (a ++ x) ≡ first_refusal (a ++ y)
same-behind a x y f = by (judged a)
  where
    by : AllPass a ⊎ ((n : ℕ) × (p : ℕ) × First a n p) → first_refusal (a ++ x) ≡ first_refusal (a ++ y)
    by (inl h) = first-right x h ∙ f h ∙ sym (first-right y h)
    by (inr h) = first-is (first-left x h.2) ∙ sym (first-is (first-left y h.2))

-- ---- a line of a table that passed, by its number

-- every line's number, which stays shut until it is named: a proof that cites a line by its number says `unfolding open_lines`
unfoldable pub open_lines : Unit {0}
unfolding numbered behind length_outside value_outside window_outside width_outside merge_outside query_length_outside query_below_window band_outside threshold_outside scale_or_shift_outside count_outside flat_query unreadable ill_formed fewer_windows more_windows buffer_short list_short
open_lines = tt

one_of : (t : Bool) (c d : Condition) → c.place ≡ None → d.place ≡ None → (cond t c d).place ≡ None
one_of true c d e f = e
one_of false c d e f = f

pub passed-line : {l : List Condition} → AllPass l → (n : ℕ) → (numbered n l).place ≡ None
unfolding numbered
passed-line end n = refl
passed-line (more {c} {l} e h) n = one_of (eqb _ n) c (numbered n l) e (passed-line h n)

either : (t : Bool) (l m : List Condition) → AllPass l → AllPass m → AllPass (cond t l m)
either true l m h k = h
either false l m h k = k

-- the second of two lines with a number is the first behind the first
pub passed-behind : {l : List Condition} → AllPass l → (n : ℕ) → AllPass (behind n l)
unfolding behind
passed-behind end n = end
passed-behind (more {c} {l} e h) n = either (eqb _ n) l _ h (passed-behind h n)

-- a condition whose place is 0 and that does not apply: its test fails
pub not-if : (n : ℕ) (t : Bool) → (at_zero n t).place ≡ None → T (not t)
not-if n true e = none-some (sym e)
not-if n false e = tt
