-- The range of sums that a part of the query admits (01, Candidates).
use Rattle.std.specs.Prelude.{ℕ, ◌+◌, ◌*◌, ◌/◌, ℤ, pos, ◌+ℤ◌, ◌-ℤ◌, ◌*ℤ◌, List, map}
use Rattle.meaning_numbers.specs.{Sum.Σℤ, Root.root, Quotient.floorℤ, Quotient.ceilℤ, Order.minℤ, Order.maxℤ, Place.numbers_from}
use Rattle.meaning_curves.specs.{Curve.total, Curve.spread, Normal.normalised}
use Rattle.meaning_filter.specs.{declared.Kind.Kind, declared.Kind.TheVariants.Raw, declared.Kind.TheVariants.Normal, declared.Limits.Limits, Envelope.lower, Envelope.upper}

-- p = m / w rounded down; the rest of the query is not filtered
abbrev pub part_count : ℕ → ℕ → ℕ
part_count m w = m / w

-- Q- of the part of w places from `from` on: the sum of the lower envelope, which at b = 0 is the sum of the part itself
unfoldable pub lower_sum : (ℕ → ℤ) → (m b from w : ℕ) → ℤ
lower_sum q m b from w = Σℤ w (λ k. lower q m b (from + k))

-- Q+: the sum of the upper envelope
unfoldable pub upper_sum : (ℕ → ℤ) → (m b from w : ℕ) → ℤ
upper_sum q m b from w = Σℤ w (λ k. upper q m b (from + k))

-- Raw range: Q- - r to Q+ + r, where r = root(w × E)
unfoldable pub raw_low : (ℕ → ℤ) → (m b E from w : ℕ) → ℤ
raw_low q m b E from w = lower_sum q m b from w -ℤ pos (root (w * E))

unfoldable pub raw_high : (ℕ → ℤ) → (m b E from w : ℕ) → ℤ
raw_high q m b E from w = upper_sum q m b from w +ℤ pos (root (w * E))

-- u = root(100 × A(q) / a²)
abbrev pub low_scale : ℕ → ℕ → ℕ
low_scale A a = root (100 * A / (a * a))

-- v = root(a² × A(q) / 100) + 1
abbrev pub high_scale : ℕ → ℕ → ℕ
high_scale A a = root (a * a * A / 100) + 1

-- X = Q- - r - w, over the query's normalised values
abbrev pub low_normal : (ℕ → ℤ) → (m b E from w : ℕ) → ℤ
low_normal q m b E from w = raw_low (normalised q m) m b E from w -ℤ pos w

-- Y = Q+ + r + w
abbrev pub high_normal : (ℕ → ℤ) → (m b E from w : ℕ) → ℤ
high_normal q m b E from w = raw_high (normalised q m) m b E from w +ℤ pos w

-- from (min(X×u, X×v) + 100×w×(T(q) - m×h)) / (100×m), rounded up
unfoldable pub normal_low : (ℕ → ℤ) → (m b E a h from w : ℕ) → ℤ
normal_low q m b E a h from w =
    let X = low_normal q m b E from w in
    let A = spread q m in
    ceilℤ (minℤ (X *ℤ pos (low_scale A a)) (X *ℤ pos (high_scale A a)) +ℤ pos (100 * w) *ℤ (total q m -ℤ pos (m * h))) (100 * m)

-- to (max(Y×u, Y×v) + 100×w×(T(q) + m×h)) / (100×m), rounded down
unfoldable pub normal_high : (ℕ → ℤ) → (m b E a h from w : ℕ) → ℤ
normal_high q m b E a h from w =
    let Y = high_normal q m b E from w in
    let A = spread q m in
    floorℤ (maxℤ (Y *ℤ pos (low_scale A a)) (Y *ℤ pos (high_scale A a)) +ℤ pos (100 * w) *ℤ (total q m +ℤ pos (m * h))) (100 * m)

-- the ends of the range of part i of a query of m values, which begins at place i × w
unfoldable pub range_of : Kind → (ℕ → ℤ) → ℕ → Limits → ℕ → ℕ → ℤ × ℤ
range_of Raw q m l w i = (raw_low q m l.band l.threshold (i * w) w, raw_high q m l.band l.threshold (i * w) w)
range_of Normal q m l w i =
    (normal_low q m l.band l.threshold l.scale l.shift (i * w) w, normal_high q m l.band l.threshold l.scale l.shift (i * w) w)

-- the ranges of all parts, in order
unfoldable pub ranges : Kind → (ℕ → ℤ) → ℕ → Limits → ℕ → List (ℤ × ℤ)
ranges kind q m l w = map (range_of kind q m l w) (numbers_from 0 (part_count m w))
