-- Laws of specs/Held.
use Rattle.meaning_numbers.proofs.Prelude.{◌≡◌, ◌∙◌, List, ℕ, suc, ◌+◌, ◌*◌, ◌<◌, ◌≤◌, arith, mul-le-mul_right, dec_lt, ℤ, length, set, length-set, get_or-set_same, get_or-set_other}
use Rattle.candidate_ranges.specs.declared.Frame.{Frame}
use Rattle.candidate_spans.specs.Held.{low_ends, high_ends, PartsHeld, Stored, EndsReady}

pub stored : (i a b : ℕ) (first last : List ℕ) → i < length first → i < length last → Stored i a b first last (set first i a) (set last i b)
stored i a b first last h k = record {
  first-long = length-set first i a;
  last-long = length-set last i b;
  first-here = get_or-set_same first i a 0 h;
  last-here = get_or-set_same last i b 0 k;
  first_else = λ j n. get_or-set_other first i j a 0 n;
  last_else = λ j n. get_or-set_other last i j b 0 n;
}

pub none-held : (f g : ℕ → ℕ) (k : ℕ) (first last : List ℕ) → PartsHeld f g k k first last
none-held f g k first last = record { first-at = λ i a b. absurd (omega arith); last-at = λ i a b. absurd (omega arith) }

module _ {i a b : ℕ} {first last first' last' : List ℕ} (s : Stored i a b first last first' last') where
  -- one entry more, behind those before it
  pub held_next : {f g : ℕ → ℕ} → PartsHeld f g 0 i first last → a ≡ f i → b ≡ g i → PartsHeld f g 0 (i + 1) first' last'
  held_next {f} {g} h e e' = record {
    first-at = λ j l u. elim (dec_lt j i) [
      | yes y ↦ s.first_else j (λ o. omega arith) ∙ h.first-at j l y
      | no n ↦ let o : j ≡ i = omega arith in rw o (s.first-here ∙ e)
    ];
    last-at = λ j l u. elim (dec_lt j i) [
      | yes y ↦ s.last_else j (λ o. omega arith) ∙ h.last-at j l y
      | no n ↦ let o : j ≡ i = omega arith in rw o (s.last-here ∙ e')
    ];
  }

  -- those behind it stay
  pub held-rest : {f g : ℕ → ℕ} {n : ℕ} → PartsHeld f g i n first last → PartsHeld f g (i + 1) n first' last'
  held-rest h = record {
    first-at = λ j l u. s.first_else j (λ o. omega arith) ∙ h.first-at j (omega arith) u;
    last-at = λ j l u. s.last_else j (λ o. omega arith) ∙ h.last-at j (omega arith) u;
  }

-- ranges that agree have the same ends
pub held_same : {r s : ℕ → ℤ × ℤ} {n : ℕ} {first last : List ℕ} → ((i : ℕ) → i < n → r i ≡ s i) → PartsHeld (low_ends r) (high_ends r) 0 n first last → PartsHeld (low_ends s) (high_ends s) 0 n first last
held_same e h = record {
  first-at = λ i l u. h.first-at i l u ∙ rw (e i u);
  last-at = λ i l u. h.last-at i l u ∙ rw (e i u);
}

-- a part's places
pub part_room : {f : Frame} {low high : List ℤ} {w parts : ℕ} {first last : List ℕ} → EndsReady f low high w parts first last → (i : ℕ) → i < parts → (i * w + w ≤ length low) × (i * w + w ≤ length high)
part_room {w = w} {parts} r i h = let m : suc i * w ≤ parts * w = mul-le-mul_right w h in (omega (arith, r.low-long), omega (arith, r.high-long))
