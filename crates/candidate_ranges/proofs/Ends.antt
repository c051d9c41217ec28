-- The ends of a part's range, as code makes them of a frame and the envelopes' sums, are the range of document 01 (`range-is`).
use Rattle.meaning_numbers.specs.{Root.root, Order.minℤ, Order.maxℤ, Quotient.floorℤ, Quotient.ceilℤ}
use Rattle.meaning_numbers.proofs.Sum.{Σℤ-same}
use Rattle.meaning_numbers.proofs.Prelude.{◌≡◌, ap, ◌∙◌, List, ℕ, ◌+◌, ◌*◌, ◌≤◌, arith, ℤ, pos, negsuc, neg_ℤ, ◌+ℤ◌, ◌-ℤ◌, ◌*ℤ◌, length, lt_z, rep-self, rep_pos, rep_add, rep-sub, rep_mul, rep_neg, rep-eq, by-test}
use Rattle.meaning_curves.specs.{Curve.at, Curve.window_sum, Curve.total, Curve.spread, Normal.normalised}
use Rattle.meaning_curves.proofs.Values.{AllIn}
use Rattle.meaning_filter.specs.Range.{lower_sum, upper_sum, raw_low, raw_high, normal_low, normal_high, range_of}
use Rattle.meaning_filter.specs.{declared.Kind.Kind, declared.Kind.TheVariants.Raw, declared.Kind.TheVariants.Normal, declared.Limits.Limits}
use Rattle.values.proofs.SumsLaws.{sum-raised}
use Rattle.distance_query.specs.Ready.{Ready, curve_of}
use Rattle.distance_query.proofs.Ready.{from_start}
use Rattle.candidate_ranges.specs.Frame.{raw_frame, normal_frame, frame_of, low_end, high_end}
use Rattle.candidate_ranges.proofs.Same.{low_sum, high_sum}

-- ---- nothing scaled, shifted or divided

min_self : (x : ℤ) → minℤ x x ≡ x
unfolding minℤ
min_self x = by-test (lt_z x x) (λ t. rw t) (λ f. rw f)

max_self : (x : ℤ) → maxℤ x x ≡ x
unfolding maxℤ
max_self x = by-test (lt_z x x) (λ t. rw t) (λ f. rw f)

times-one : (x : ℤ) → x *ℤ pos 1 ≡ x
times-one x = rep-eq (rep_mul (rep-self x) (rep_pos 1)) (rep-self x) (omega arith)

plus-zero : (x : ℤ) → x +ℤ pos 0 ≡ x
plus-zero x = rep-eq (rep_add (rep-self x) (rep_pos 0)) (rep-self x) (omega arith)

floor-one : (x : ℤ) → floorℤ x 1 ≡ x
unfolding floorℤ
floor-one (pos n) = ap pos (omega arith)
floor-one (negsuc n) = ap negsuc (omega arith)

ceil-one : (x : ℤ) → ceilℤ x 1 ≡ x
unfolding ceilℤ
ceil-one x = ap neg_ℤ (floor-one _) ∙ rep-eq (rep_neg (rep_neg (rep-self x))) (rep-self x) (omega arith)

module _ (q : ℕ → ℤ) (m : ℕ) (l : Limits) (w from : ℕ) where
  raw-low : low_end (raw_frame l w) (lower_sum q m l.band from w) ≡ raw_low q m l.band l.threshold from w
  unfolding low_end raw_low
  raw-low = let x = lower_sum q m l.band from w -ℤ pos (root (w * l.threshold)) in rw (times-one x, min_self x, plus-zero x) (ceil-one x)

  raw-high : high_end (raw_frame l w) (upper_sum q m l.band from w) ≡ raw_high q m l.band l.threshold from w
  unfolding high_end raw_high
  raw-high = let y = upper_sum q m l.band from w +ℤ pos (root (w * l.threshold)) in rw (times-one y, max_self y, plus-zero y) (floor-one y)

-- ---- r and w at once

both-less : (x : ℤ) (r w : ℕ) → x -ℤ pos (r + w) ≡ x -ℤ pos r -ℤ pos w
both-less x r w = rep-eq (rep-sub (rep-self x) (rep_pos (r + w))) (rep-sub (rep-sub (rep-self x) (rep_pos r)) (rep_pos w)) (omega arith)

both-more : (x : ℤ) (r w : ℕ) → x +ℤ pos (r + w) ≡ x +ℤ pos r +ℤ pos w
both-more x r w = rep-eq (rep_add (rep-self x) (rep_pos (r + w))) (rep_add (rep_add (rep-self x) (rep_pos r)) (rep_pos w)) (omega arith)

module _ (q : ℕ → ℤ) (m : ℕ) (l : Limits) (w from : ℕ) where
  normal-low : low_end (normal_frame (spread q m) (total q m) m l w) (lower_sum (normalised q m) m l.band from w) ≡ normal_low q m l.band l.threshold l.scale l.shift from w
  unfolding low_end normal_low raw_low
  normal-low = rw (both-less _ _ w)

  normal-high : high_end (normal_frame (spread q m) (total q m) m l w) (upper_sum (normalised q m) m l.band from w) ≡ normal_high q m l.band l.threshold l.scale l.shift from w
  unfolding high_end normal_high raw_high
  normal-high = rw (both-more _ _ w)

-- ---- the range

abbrev pub Pair : Type 0
Pair = ℤ × ℤ

ends-are : (kind : Kind) (q : ℕ → ℤ) (m : ℕ) (l : Limits) (w i : ℕ)
    → let f = frame_of kind (spread q m) (total q m) m l w in
    ◌≡◌ {A = Pair} (low_end f (lower_sum (curve_of kind q m) m l.band (i * w) w), high_end f (upper_sum (curve_of kind q m) m l.band (i * w) w)) (range_of kind q m l w i)
unfolding frame_of range_of
ends-are Raw q m l w i = λ k. ((raw-low q m l w (i * w)) k, (raw-high q m l w (i * w)) k)
ends-are Normal q m l w i = λ k. ((normal-low q m l w (i * w)) k, (normal-high q m l w (i * w)) k)

-- the raised sum less its bias is the sum
pub total-is : {kind : Kind} {q curve low high : List ℤ} {b p A : ℕ} → AllIn q → Ready kind q b curve low high p A → pos p -ℤ pos (10000 * length q) ≡ total (at q) (length q)
total-is {q = q} {p = p} h r =
    let m = length q in
    rep-eq (rep-sub (rep_pos p) (rep_pos (10000 * m))) (sum-raised 0 m h) (omega arith) ∙ Σℤ-same m _ (at q) (from_start q m).at

pub range-is : {kind : Kind} {q curve low high : List ℤ} {p A : ℕ} (l : Limits) (w i : ℕ) → AllIn q → Ready kind q l.band curve low high p A → i * w + w ≤ length q
    → let m = length q in let f = frame_of kind A (pos p -ℤ pos (10000 * m)) m l w in
    ◌≡◌ {A = Pair} (low_end f (window_sum low w (i * w)), high_end f (window_sum high w (i * w))) (range_of kind (at q) m l w i)
range-is {kind} {q} l w i h r fits =
    let c = r.curve-is.same in
    rw (total-is h r, r.spread, low_sum (i * w) w c r.envelopes fits, high_sum (i * w) w c r.envelopes fits) (ends-are kind (at q) _ l w i)
