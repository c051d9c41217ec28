-- The ranges of a query's parts as code makes them: what they share (`frame_of`), and the two ends of a part's range from the sums of the envelopes (`low_end`, `high_end`).
use Rattle.std.specs.Prelude.{ℕ, ◌+◌, ◌*◌, ◌≤◌, ℤ, pos, ◌+ℤ◌, ◌-ℤ◌, ◌*ℤ◌, List}
use Rattle.meaning_numbers.specs.{Root.root, Quotient.floorℤ, Quotient.ceilℤ, Order.minℤ, Order.maxℤ}
use Rattle.meaning_curves.specs.Curve.{window_sum}
use Rattle.meaning_filter.specs.{declared.Kind.Kind, declared.Kind.TheVariants.Raw, declared.Kind.TheVariants.Normal, declared.Limits.Limits, Range.low_scale, Range.high_scale}
use Rattle.numbers.specs.Small.{Small}
use Rattle.candidate_ranges.specs.{declared.Frame.Frame, declared.Range.Range}

-- of a raw query: r, and nothing scaled or shifted
abbrev pub raw_frame : Limits → ℕ → Frame
raw_frame l w = record {
  reach = pos (root (w * l.threshold));
  narrow = pos 1;
  wide = pos 1;
  fall = pos 0;
  rise = pos 0;
  divisor = 1;
}

-- of a normalised query of spread A and sum T: r + w, u, v, 100 × w × (T - m × h), 100 × w × (T + m × h), 100 × m
abbrev pub normal_frame : ℕ → ℤ → ℕ → Limits → ℕ → Frame
normal_frame A T m l w = record {
  reach = pos (root (w * l.threshold) + w);
  narrow = pos (low_scale A l.scale);
  wide = pos (high_scale A l.scale);
  fall = pos (100 * w) *ℤ (T -ℤ pos (m * l.shift));
  rise = pos (100 * w) *ℤ (T +ℤ pos (m * l.shift));
  divisor = 100 * m;
}

unfoldable pub frame_of : Kind → ℕ → ℤ → ℕ → Limits → ℕ → Frame
frame_of Raw A T m l w = raw_frame l w
frame_of Normal A T m l w = normal_frame A T m l w

-- the ends of a range, of the sums of the lower and the upper envelope
unfoldable pub low_end : Frame → ℤ → ℤ
low_end f sum = let X = sum -ℤ f.reach in ceilℤ (minℤ (X *ℤ f.narrow) (X *ℤ f.wide) +ℤ f.fall) f.divisor

unfoldable pub high_end : Frame → ℤ → ℤ
high_end f sum = let Y = sum +ℤ f.reach in floorℤ (maxℤ (Y *ℤ f.narrow) (Y *ℤ f.wide) +ℤ f.rise) f.divisor

-- the range of part i, of the envelopes as lists
abbrev pub range_at : Frame → List ℤ → List ℤ → ℕ → ℕ → Range
range_at f low high w i = record { low = low_end f (window_sum low w (i * w)); high = high_end f (window_sum high w (i * w)) }

-- a frame whose numbers have the sizes that the limits of 01 leave them
pub record FrameIn (f : Frame) : Type 0 where
  pub reach : Small 16000256 f.reach
  pub narrow : Small 204800001 f.narrow
  pub wide : Small 204800001 f.wide
  pub fall : Small 1310720000000 f.fall
  pub rise : Small 1310720000000 f.rise
  pub some : 1 ≤ f.divisor

-- a query of m values within its limits, with its raised sum and its spread
pub record QueryIn (m w : ℕ) (l : Limits) (values spread : ℕ) : Type 0 where
  pub some : 1 ≤ m
  pub most : m ≤ 1024
  pub window : w ≤ 256
  pub threshold : l.threshold ≤ 1000000000000
  pub scale : 1 ≤ l.scale
  pub scale-most : l.scale ≤ 100
  pub shift : l.shift ≤ 20000
  pub values-most : values ≤ 20000 * m
  pub spread-most : spread ≤ 419430400000000
