-- Offsets taken in one by one (`taking-next`), or passed over where none is in the set (`took-none`).
use Rattle.meaning_numbers.specs.Sum.{bit, count}
use Rattle.meaning_numbers.proofs.Count.{bit_le, bit-false, count-more, never-count}
use Rattle.meaning_numbers.proofs.Prelude.{◌≡◌, refl, sym, ap, ◌∙◌, Bool, true, false, not, ◌&&◌, List, ℕ, zero, suc, ◌+◌, ◌-◌, ◌<◌, ◌≤◌, arith, le_step, length, length-set}
use Rattle.meaning_rows.specs.Runs.{before, take_in}
use Rattle.meaning_rows.proofs.Runs.{runs-more, run_count-more, before_more, runs-le}
use Rattle.meaning_rows.proofs.Columns.{put_left, put_right, Filling, filling-next}
use Rattle.candidate_counts.specs.{declared.Found.Found, Take.Took}

-- ---- an offset that is not in the set

module _ {p : ℕ → Bool} {left₀ right₀ : List ℕ} {k : ℕ} {left right : List ℕ} where
  passed : {j : ℕ} {prev : Bool} → p j ≡ false → Filling p left₀ right₀ j k prev left right → Filling p left₀ right₀ (j + 1) k false left right
  unfolding take_in
  passed {j} out f = record {
    prev-is = sym (before_more p j ∙ out);
    count-is = omega (arith, f.count-is, run_count-more p j, ap (λ t. bit (t && not (before p j))) out, bit-false refl);
    left_is = f.left_is ∙ rw (runs-more p j, out);
    right_is = f.right_is ∙ rw (runs-more p j, out);
  }

  passed-all : (from n : ℕ) {prev : Bool} → ((i : ℕ) → i < suc n → p (from + i) ≡ false) → Filling p left₀ right₀ from k prev left right → Filling p left₀ right₀ (from + suc n) k false left right
  passed-all from zero out f = let e : from + 0 ≡ from = omega arith in passed (rw e at (out 0 (omega arith))) f
  passed-all from (suc n) out f =
      let e : from + suc (suc n) ≡ (from + suc n) + 1 = omega arith in
      rw e (passed (out (suc n) (omega arith)) (passed-all from n (λ i h. out i (le_step h)) f))

count-passed : (p : ℕ → Bool) (from n : ℕ) → ((i : ℕ) → i < n → p (from + i) ≡ false) → count p (from + n) ≡ count p from
count-passed p from zero out = let e : from + 0 ≡ from = omega arith in rw e
count-passed p from (suc n) out =
    let e : from + suc n ≡ (from + n) + 1 = omega arith in
    rw e (omega (arith, count-more p (from + n), bit-false (out n (omega arith)), count-passed p from n (λ i h. out i (le_step h))))

-- ---- offsets passed over

pub took-none : (p : ℕ → Bool) (from n : ℕ) (a : Found) (left right : List ℕ) → 0 < n → count (λ k. p (from + k)) n ≡ 0 → Took p from n a (record { runs = a.runs; candidates = a.candidates; going = false }) left right left right
took-none p from zero a left right some none = absurd (omega arith)
took-none p from (suc n) a left right some none =
    let out = never-count (λ k. p _) (suc n) none in
    record { counted = λ e. e ∙ sym (count-passed p from (suc n) out); filling = λ left₀ right₀ hl hr f. passed-all from n out f }

-- ---- offsets taken in one by one

-- of the offsets from `from` on those before j
pub record Taking (set : ℕ → Bool) (from j : ℕ) (a b : Found) (left₀ right₀ left right : List ℕ) : Type 0 where
  pub long-left : length left ≡ length left₀
  pub long-right : length right ≡ length right₀
  pub few : b.runs + from ≤ a.runs + j
  pub fewer : b.candidates + from ≤ a.candidates + j
  pub begun : bit b.going ≤ b.runs
  pub counted : a.candidates ≡ count set from → b.candidates ≡ count set j
  pub filling : (l₀ r₀ : List ℕ) → j ≤ length l₀ → j ≤ length r₀ → Filling set l₀ r₀ from a.runs a.going left₀ right₀ → Filling set l₀ r₀ j b.runs b.going left right

pub taking-starts : (set : ℕ → Bool) (from : ℕ) (a : Found) (left right : List ℕ) → bit a.going ≤ a.runs → Taking set from from a a left right left right
taking-starts set from a left right b = record { long-left = refl; long-right = refl; few = omega arith; fewer = omega arith; begun = b; counted = λ c. c; filling = λ l₀ r₀ hl hr f. f }

length-put-left : (here prev : Bool) (l : List ℕ) (k j : ℕ) → length (put_left here prev l k j) ≡ length l
unfolding put_left
length-put-left false prev l k j = refl
length-put-left true true l k j = refl
length-put-left true false l k j = length-set l k j

length-put-right : (here prev : Bool) (l : List ℕ) (k j : ℕ) → length (put_right here prev l k j) ≡ length l
unfolding put_right
length-put-right false prev l k j = refl
length-put-right true true l k j = length-set l (k - 1) j
length-put-right true false l k j = length-set l k j

begun-next : (here prev : Bool) (k : ℕ) → bit prev ≤ k → bit here ≤ k + bit (here && not prev)
begun-next false prev k h = omega arith
begun-next true true k h = omega arith
begun-next true false k h = omega arith

module _ {set : ℕ → Bool} {from j : ℕ} {a b : Found} {left₀ right₀ left right : List ℕ} where
  pub taking-next : {here : Bool} {k' : ℕ} {left' right' : List ℕ} → Taking set from j a b left₀ right₀ left right → here ≡ set j
      → k' ≡ b.runs + bit (here && not b.going) → left' ≡ put_left here b.going left b.runs j → right' ≡ put_right here b.going right b.runs j
      → Taking set from (j + 1) a (record { runs = k'; candidates = b.candidates + bit here; going = here }) left₀ right₀ left' right'
  taking-next {here} {k'} {left'} {right'} t is ek el er = record {
    long-left = ap length el ∙ length-put-left here b.going left b.runs _ ∙ t.long-left;
    long-right = ap length er ∙ length-put-right here b.going right b.runs _ ∙ t.long-right;
    few = omega (arith, t.few, bit_le (here && not b.going));
    fewer = omega (arith, t.fewer, bit_le here);
    begun = rw ek (begun-next here b.going b.runs t.begun);
    counted = λ c. omega (arith, t.counted c, count-more set j, ap bit is);
    filling = λ l₀ r₀ hl hr f.
        filling-next (t.filling l₀ r₀ (omega arith) (omega arith) f) is {W = j + 1} (omega arith) (omega (arith, runs-le set (j + 1))) (omega (arith, runs-le set (j + 1))) ek el er;
  }

  pub taking-ends : {n : ℕ} → j ≡ from + n → Taking set from j a b left₀ right₀ left right → Took set from n a b left₀ right₀ left right
  taking-ends e t = let u = rw e at t in record { counted = u.counted; filling = u.filling }
