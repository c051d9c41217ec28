-- Runs at the front of two columns, cleared behind, are as they are handed out (`handed`).
use Rattle.meaning_numbers.proofs.Prelude.{◌≡◌, refl, sym, ap, ◌∙◌, Bool, List, [], ◌∷◌, ◌++◌, map, ℕ, ◌≤◌, arith, length, drop, length-append, length-drop, take_at}
use Rattle.meaning_rows.proofs.{Runs.runs-le, Columns.lefts, Columns.rights, Columns.length-lefts, Columns.length-rights}
use Rattle.meaning_entries.specs.Buffers.{filled}
use Rattle.clear.specs.Clear.{cleared_to, cleared_from}
use Rattle.candidate_counts.specs.Handed.{Columns, Handed}

lefts-are : (l : List (ℕ × ℕ)) → lefts l ≡ map (λ x. x.0) l
unfolding lefts
lefts-are [] = refl
lefts-are (x ∷ l) = rw (lefts-are l)

rights-are : (l : List (ℕ × ℕ)) → rights l ≡ map (λ x. x.1) l
unfolding rights
rights-are [] = refl
rights-are (x ∷ l) = rw (rights-are l)

-- a front part kept, and 0 behind it
behind : (front old now : List ℕ) (k : ℕ) → length front ≡ k → k ≤ length old → now ≡ front ++ drop k old → cleared_from k now ≡ filled 0 front old
unfolding filled cleared_to
behind front old now k e h n =
    let l : length now ≡ length old = ap length n ∙ length-append front _ ∙ rw (e, length-drop k old) (omega arith) in
    rw (l, n, take_at front _ k e, e)

module _ {set : ℕ → Bool} {n : ℕ} {left₀ right₀ left right : List ℕ} {k found : ℕ} (c : Columns set n left₀ right₀ left right k found) where
  room : {m : ℕ} → n ≤ m → k ≤ m
  room h = omega (arith, runs-le set n, c.count-is)

  pub left-long : n ≤ length left₀ → length left ≡ length left₀
  left-long h = ap length c.left_is ∙ length-append (lefts _) _ ∙ rw (length-lefts _, sym c.count-is, length-drop k left₀) (omega (arith, room h))

  pub right-long : n ≤ length right₀ → length right ≡ length right₀
  right-long h = ap length c.right_is ∙ length-append (rights _) _ ∙ rw (length-rights _, sym c.count-is, length-drop k right₀) (omega (arith, room h))

  pub handed : {left' right' : List ℕ} → n ≤ length left₀ → n ≤ length right₀ → left' ≡ cleared_from k left → right' ≡ cleared_from k right
      → Handed set n left₀ right₀ left' right' k found
  handed hl hr el er = record {
    count-is = c.count-is;
    found-is = c.found-is;
    left_is = el ∙ behind _ left₀ left k (length-lefts _ ∙ sym c.count-is) (room hl) c.left_is ∙ ap (λ l. filled 0 l left₀) (lefts-are _);
    right_is = er ∙ behind _ right₀ right k (length-rights _ ∙ sym c.count-is) (room hr) c.right_is ∙ ap (λ l. filled 0 l right₀) (rights-are _);
  }
