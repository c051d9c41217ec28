-- Laws of specs/Change.
use Rattle.meaning_numbers.proofs.Prelude.{◌≡◌, true, false, ℕ, ◌+◌, ◌*◌, ◌/◌, ◌<◌, ◌≤◌, arith, dec_lt, div-eq_of_lt-le, div-mul-le_self, lt-div-mul-add, leb-true, ltb-true, le-leb, lt-ltb, both, clash}
use Rattle.sums_slide.specs.{Levels.within, Levels.row_of, Change.Stop, Change.NextRow}

-- where the windows passed are in the range, what is told from there on is told from the first
pub stop-from : {lv : ℕ → ℕ} {n lo hi r z : ℕ} (from j : ℕ) → from ≤ j → ((k : ℕ) → k < j → from ≤ k → within lo hi (lv k) ≡ true) → Stop lv n lo hi j r z → Stop lv n lo hi from r z
stop-from from j l h s = record {
  change = record {
    above = omega arith;
    below = s.change.below;
    same = λ k a b. elim (dec_lt k j) [ yes m ↦ h k m b | no m ↦ s.change.same k a (omega arith) ];
    other = s.change.other;
  };
  sum = s.sum;
}

-- no window but one passes, and none is left
pub stop-one : {lv : ℕ → ℕ} {n lo hi z : ℕ} (j : ℕ) → within lo hi (lv j) ≡ true → j + 1 ≡ n → z ≡ lv (j + 1) → Stop lv n lo hi j (j + 1) z
stop-one {lv} {n} {lo} {hi} j h e s = record {
  change = record {
    above = omega arith;
    below = omega arith;
    same = λ k a b. let q : k ≡ j = omega arith in rw q h;
    other = λ l. absurd (omega arith);
  };
  sum = s;
}

-- the first does not pass, or none is left
pub stop-here : {lv : ℕ → ℕ} {n lo hi z : ℕ} (j : ℕ) → j ≤ n → (j < n → within lo hi (lv j) ≡ false) → z ≡ lv j → Stop lv n lo hi j j z
stop-here j l f s = record { change = record { above = omega arith; below = l; same = λ k a b. absurd (omega arith); other = f }; sum = s }

-- a number is in the range of a row exactly if its quotient is the row's number
in_row : (d k n : ℕ) → 0 < d → within (k * d) (k * d + d) n ≡ true → n / d ≡ k
unfolding within
in_row d k n one h =
    let b = both _ _ h in
    div-eq_of_lt-le d (leb-true (k * d) n b.0) (omega (arith, ltb-true n (k * d + d) b.1))

row_in : (d n : ℕ) → 0 < d → within (n / d * d) (n / d * d + d) n ≡ true
unfolding within
row_in d n one = rw (le-leb _ n (div-mul-le_self n d), lt-ltb n _ (lt-div-mul-add one))

pub next_row : {lv : ℕ → ℕ} {n from r z : ℕ} (d : ℕ) → 0 < d → from < n → Stop lv n (lv from / d * d) (lv from / d * d + d) from r z → NextRow lv d n from r z
unfolding row_of
next_row {lv} {n} {from} {r} {z} d one less h =
    let c = h.change in
    let ahead : from < r = elim (dec_lt from r) [
      | yes l ↦ l
      | no f ↦ let e : r ≡ from = omega arith in clash (row_in d _ one) (rw e at (c.other (omega arith)))
    ] in
    record {
      run = record {
        ahead = ahead;
        below = c.below;
        same = λ j a b. in_row d (lv from / d) (lv j) one (c.same j a b);
        other = λ l e. clash (rw e at (row_in d (lv r) one)) (c.other l);
      };
      sum = h.sum;
    }
