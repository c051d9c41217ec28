-- No match is lost: the sums of a match's parts lie in the ranges. A raw match has a path of total at most E (`raw-kept`). A normalised match has one between normalised values, so the sums of its parts' normalised values lie in that range (`raw-kept` again);
-- the scale and the shift bring it to the sums themselves (`normal-kept`). `kept` says both of a query's kind.
use Rattle.meaning_numbers.specs.{Sum.Σℤ, Order.minℤ, Order.maxℤ}
use Rattle.meaning_numbers.proofs.Prelude.{ℕ, ◌+◌, ◌*◌, ◌<◌, ◌≤◌, arith, T, ℤ, pos, ◌+ℤ◌, ◌-ℤ◌, ◌*ℤ◌, zarith, z-add, z-sub}
use Rattle.meaning_numbers.proofs.{Sum.Σℤ-centred, Root.root_is, Between.Between}
use Rattle.meaning_curves.specs.{Curve.total, Curve.spread, Normal.centred, Normal.cut, Normal.normalised}
use Rattle.meaning_curves.proofs.{Normal.cut-is, Straight.distance_least, Match.RawMatch, Match.NormalMatch, Match.raw-yes, Match.normal-yes}
use Rattle.meaning_filter.specs.Range.{lower_sum, upper_sum, raw_low, raw_high, low_scale, high_scale, low_normal, high_normal, normal_low, normal_high, range_of}
use Rattle.meaning_filter.specs.{declared.Kind.Kind, declared.Kind.TheVariants.Raw, declared.Kind.TheVariants.Normal, declared.Limits.Limits, Matches.matches}
use Rattle.meaning_filter.proofs.{Envelope.envelope, Range.path-range, Scale.scale-range, Scale.low-scale, Scale.high-scale, Shift.shift-low, Shift.shift-high}

pub raw-kept : {s q : ℕ → ℤ} {m b E : ℕ} (p w : ℕ) → 0 < m → p + w ≤ m → RawMatch s q m b E
    → Between (raw_low q m b E p w) (Σℤ w (λ k. s (p + k))) (raw_high q m b E p w)
unfolding raw_low raw_high lower_sum upper_sum
raw-kept {s} {q} {m} {b} {E} p w long fits c = path-range m p w E _ long fits (envelope q m b) (distance_least s q b m long).attained c.near (root_is (w * E))

-- the sum of a part's normalised values
pub normal-range : {s q : ℕ → ℤ} {m b E a h : ℕ} (p w : ℕ) → 0 < m → p + w ≤ m → NormalMatch s q m b E a h
    → Between (raw_low (normalised q m) m b E p w) (Σℤ w (λ k. normalised s m (p + k))) (raw_high (normalised q m) m b E p w)
normal-range {s} {q} {m} p w long fits c = raw-kept p w long fits (record { near = c.near })

-- the sum of its centred values, a hundred times
pub centred-range : {s q : ℕ → ℤ} {m b E a h : ℕ} (p w : ℕ) → 0 < m → 0 < a → p + w ≤ m → NormalMatch s q m b E a h
    → let X = low_normal q m b E p w in let Y = high_normal q m b E p w in let A = spread q m in
    Between (minℤ (X *ℤ pos (low_scale A a)) (X *ℤ pos (high_scale A a))) (pos 100 *ℤ Σℤ w (λ k. centred s m (p + k))) (maxℤ (Y *ℤ pos (low_scale A a)) (Y *ℤ pos (high_scale A a)))
unfolding normalised
centred-range {s} {q} {m} {b} {E} {a} p w long one fits c =
    let A = spread s m in
    let B = spread q m in
    let lo = raw_low _ m b E p w in
    let hi = raw_high _ m b E p w in
    let N = Σℤ w (λ k. normalised s m (p + k)) in
    let r = normal-range p w long fits c in
    scale-range w (λ k. centred s m (p + k)) (λ k. cut A _) (λ k l. cut-is _ c.not-flat)
    (low_scale B a) _ (lo -ℤ pos w) (hi +ℤ pos w) (low-scale A B a one c.down) (omega (arith, high-scale A B a c.up))
    (omega (zarith, z-sub lo (pos w), z-sub N (pos w))) (omega (zarith, z-add hi (pos w), z-add N (pos w)))

pub normal-kept : {s q : ℕ → ℤ} {m b E a h : ℕ} (p w : ℕ) → 0 < m → 0 < a → p + w ≤ m → NormalMatch s q m b E a h
    → Between (normal_low q m b E a h p w) (Σℤ w (λ k. s (p + k))) (normal_high q m b E a h p w)
unfolding normal_low normal_high
normal-kept {s} {q} {m} {h = h} p w long one fits c =
    let S = Σℤ w (λ k. s (p + k)) in
    let i : Between _ (pos 100 *ℤ (pos m *ℤ S -ℤ pos w *ℤ total s m)) _ = rw (Σℤ-centred m w (total s m) (λ k. s (p + k))) at (centred-range p w long one fits c) in
    record {
      low = shift-low m w h S (total s m) (total q m) _ long c.shift i.low;
      high = shift-high m w h S (total s m) (total q m) _ long c.shift i.high;
    }

-- part i of a query of any kind, which begins at place i × w
pub kept : (kind : Kind) (s q : ℕ → ℤ) (m : ℕ) (l : Limits) (w i : ℕ) → 0 < m → 0 < l.scale → i * w + w ≤ m → T (matches kind s q m l)
    → Between (range_of kind q m l w i).0 (Σℤ w (λ k. s (i * w + k))) (range_of kind q m l w i).1
unfolding range_of matches
kept Raw s q m l w i long one fits t = raw-kept (i * w) w long fits (raw-yes s q m l.band l.threshold t)
kept Normal s q m l w i long one fits t = normal-kept (i * w) w long one fits (normal-yes s q m l.band l.threshold l.scale l.shift t)
