-- Laws of specs/Rows.
use Rattle.meaning_numbers.proofs.Prelude.{◌≡◌, sym, ◌∙◌, List, ℕ, ◌+◌, ◌<◌, arith, dec_le, length, set, get_or-set_same, get_or-set_other}
use Rattle.distance_warped.specs.Rows.{big, before_more, Halfway}

pub halfway-more : {f g : ℕ → ℕ} {j m : ℕ} {row : List ℕ} (v : ℕ) → Halfway f g j m row → j + 1 < length row → v ≡ g j → Halfway f g (j + 1) m (set row (j + 1) v)
halfway-more {f} {g} {j} {m} {row} v h long e = record {
  done = λ k l. elim (dec_le k j) [
    | yes u ↦ get_or-set_other row (j + 1) k v 0 (λ e. omega arith) ∙ h.done k u
    | no n ↦ let same : k ≡ j + 1 = omega arith in rw same (get_or-set_same row (j + 1) v 0 long ∙ e ∙ sym (before_more big g j))
  ];
  rest = λ k l u. get_or-set_other row (j + 1) k v 0 (λ e. omega arith) ∙ h.rest k (omega arith) u;
}
