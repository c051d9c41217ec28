-- The range of each part of a query, and the offsets that meet all parts handed out.
use Rattle.std.specs.Prelude.{ℕ, ℤ, List}
use Rattle.candidate_ranges.specs.{declared.Frame.Frame, Frame.range_at}

-- the ends of the range of part i, of the envelopes
abbrev pub part_range : Frame → List ℤ → List ℤ → ℕ → ℕ → ℤ × ℤ
part_range f low high w i = ((range_at f low high w i).low, (range_at f low high w i).high)
