-- Values clamped to 32 bits: one outside its limits stays outside and any other is itself, so an audit of clamped values answers as one of the values themselves (`clamped-answer`).
use Rattle.std.specs.Prelude.{Err}
use Rattle.meaning_numbers.specs.{Order.within, Place.place_from}
use Rattle.meaning_numbers.proofs.Prelude.{◌≡◌, refl, sym, ap, ◌∙◌, Bool, true, false, not, cond, List, [], ◌∷◌, map, Option, None, Some, ℕ, suc, arith, ℤ, pos, negsuc, length, length-map, lt_z, ◌≤ℤ◌, zmach, le-lt_z}
use Rattle.meaning_curves.specs.Limits.{most_values, length_in, value_in, first_outside}
use Rattle.meaning_curves.proofs.Values.{yes-value}
use Rattle.meaning_rows.specs.Index.{Index}
use Rattle.meaning_text.proofs.Reading.{on-flag}
use Rattle.meaning_entries.specs.{Answers.AuditAnswer, Answers.refusal, Refusal.first_refusal, Refusal.length_outside, Refusal.value_outside, Audit.audit_table, Audit.audit_answer}
use Rattle.numbers.specs.Narrow.{clamp}

in-clamp : (z : ℤ) → value_in z ≡ true → clamp z ≡ z
in-clamp z e =
    let b = yes-value z e in
    let low : negsuc 2147483647 ≤ℤ z = omega zmach in
    let high : z ≤ℤ pos 2147483647 = omega zmach in
    rw (le-lt_z low, le-lt_z high) refl

value-clamp : (z : ℤ) → value_in (clamp z) ≡ value_in z
unfolding within
value-clamp z =
    on-flag (value_in z)
    (λ e. ap value_in (in-clamp z e))
    (λ e. on-flag (lt_z z (negsuc 2147483647))
    (λ t. rw t (sym e))
    (λ t. on-flag (lt_z (pos 2147483647) z) (λ u. rw (t, u) (sym e)) (λ u. rw (t, u) refl)))

outside-clamp : (vs : List ℤ) → first_outside (map clamp vs) ≡ first_outside vs
unfolding first_outside place_from
outside-clamp vs = from 0 vs
  where
    from : (k : ℕ) (vs : List ℤ) → place_from k (λ x. not (value_in x)) (map clamp vs) ≡ place_from k (λ x. not (value_in x)) vs
    from k [] = refl
    from k (x ∷ vs) = rw (value-clamp x, from (suc k) vs) refl

some-none : {A : Type 0} {n : ℕ} → Some n ≡ None → A
some-none e = let z : ◌≡◌ {A = ℕ} 0 1 = cc in absurd (omega arith)

all-clamp : (vs : List ℤ) → first_outside vs ≡ None → map clamp vs ≡ vs
unfolding first_outside place_from
all-clamp vs e = from 0 vs e
  where
    from : (k : ℕ) (vs : List ℤ) → place_from k (λ x. not (value_in x)) vs ≡ None → map clamp vs ≡ vs
    from k [] e = refl
    from k (x ∷ vs) e = on-flag (value_in x) (λ t. rw (in-clamp x t, from (suc k) vs (rw t at e)) refl) (λ t. some-none (rw t at e))

module _ (x : Index) where
  abbrev answer : List ℤ → AuditAnswer
  answer s = audit_answer (record { series = s; index = x })

  -- a value outside
  first-is : (s : List ℤ) (k : ℕ) (t : Bool) → length_in most_values (length s) ≡ t → first_outside s ≡ Some k → first_refusal (audit_table most_values (record { series = s; index = x })) ≡ cond t (Some (2, k)) (Some (1, 0))
  unfolding first_refusal audit_table length_outside value_outside
  first-is s k true e f = rw (e, f) refl
  first-is s k false e f = rw e refl

  refused : (s : List ℤ) (p : ℕ × ℕ) → first_refusal (audit_table most_values (record { series = s; index = x })) ≡ Some p → answer s ≡ Err (refusal p)
  unfolding audit_answer
  refused s p e = rw (e, audit_answer) refl

  by_length : (vs : List ℤ) (k : ℕ) (t : Bool) → first_outside vs ≡ Some k → length_in most_values (length vs) ≡ t → answer (map clamp vs) ≡ answer vs
  by_length vs k true e f =
      refused (map clamp vs) (2, k) (first-is (map clamp vs) k true (ap (length_in most_values) (length-map vs clamp) ∙ f) (outside-clamp vs ∙ e)) ∙ sym (refused vs (2, k) (first-is vs k true f e))
  by_length vs k false e f =
      refused (map clamp vs) (1, 0) (first-is (map clamp vs) k false (ap (length_in most_values) (length-map vs clamp) ∙ f) (outside-clamp vs ∙ e)) ∙ sym (refused vs (1, 0) (first-is vs k false f e))

  by-outside : (vs : List ℤ) (o : Option ℕ) → first_outside vs ≡ o → answer (map clamp vs) ≡ answer vs
  by-outside vs None e = ap answer (all-clamp vs e)
  by-outside vs (Some k) e = by_length vs k (length_in most_values _) e refl

  pub clamped-answer : (vs : List ℤ) → answer (map clamp vs) ≡ answer vs
  clamped-answer vs = by-outside vs (first_outside vs) refl
