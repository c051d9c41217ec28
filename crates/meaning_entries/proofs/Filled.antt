-- A buffer that is 0 behind its new entries, and the columns of entries of offsets.
use Rattle.meaning_numbers.proofs.Prelude.{◌≡◌, refl, sym, ap, ◌∙◌, List, [], ◌∷◌, ◌++◌, map, ℕ, zero, suc, ◌+◌, ◌-◌, ◌<◌, ◌≤◌, arith, dec_lt, length, get_or, replicate, length-append, length-replicate, List·get_d-append, ext_get_or, get_or-append-add}
use Rattle.meaning_rows.specs.Build.{entry}
use Rattle.meaning_entries.specs.Buffers.{filled, lefts, rights}
use Rattle.meaning_rows.proofs.Columns as Columns

pub zeros : {A : Type 0} (a : A) (n x : ℕ) → get_or (replicate n a) x a ≡ a
zeros a zero x = refl
zeros a (suc n) zero = refl
zeros a (suc n) (suc x) = zeros a n x

-- a buffer that is 0 behind the new entries
pub filled_is : (new old col : List ℕ) → length col ≡ length old → length new ≤ length old → ((x : ℕ) → x < length new → get_or col x 0 ≡ get_or new x 0) → ((x : ℕ) → length new ≤ x → get_or col x 0 ≡ 0) → col ≡ filled 0 new old
unfolding filled
filled_is new old col long fits front past =
    let rest : List ℕ = replicate (length old - length new) 0 in
    ext_get_or 0 col _ (omega (arith, length-append new rest, length-replicate {A = ℕ} (length old - length new) 0))
    (λ x l. elim (dec_lt x (length new)) [
      | yes b ↦ front x b ∙ sym (List·get_d-append new rest 0 x b)
      | no f ↦ let q : length new + (x - length new) ≡ x = omega arith in
          past x (omega arith) ∙ sym (zeros 0 (length old - length new) (x - length new)) ∙ sym (get_or-append-add new rest _ 0) ∙ ap (λ z. get_or (new ++ rest) z 0) q
    ])

pub lefts-entry : (l : List (ℕ × ℕ)) → lefts (map entry l) ≡ Columns.lefts l
unfolding Columns.lefts
lefts-entry [] = refl
lefts-entry (x ∷ l) = rw (lefts-entry l)

pub rights-entry : (l : List (ℕ × ℕ)) → rights (map entry l) ≡ Columns.rights l
unfolding Columns.rights
rights-entry [] = refl
rights-entry (x ∷ l) = rw (rights-entry l)
