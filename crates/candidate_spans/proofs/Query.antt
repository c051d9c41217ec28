-- A query that is prepared: what the ends of its parts ask for is had (`query-ready`, `ends-ready`), and what is held of them are the ranges of document 01 (`ranges-held`).
use Rattle.meaning_numbers.proofs.Prelude.{◌≡◌, List, ℕ, suc, ◌+◌, ◌*◌, ◌/◌, ◌<◌, ◌≤◌, arith, div-mul-le_self, div-le_self, mul-le-mul_right, ℤ, pos, ◌-ℤ◌, length}
use Rattle.meaning_curves.specs.Curve.{at}
use Rattle.meaning_filter.specs.{declared.Kind.Kind, declared.Limits.Limits, Range.range_of}
use Rattle.distance_query.specs.Ready.{Ready}
use Rattle.candidate_ranges.specs.{declared.Frame.Frame, Frame.frame_of, Frame.QueryIn}
use Rattle.candidate_ranges.proofs.{Sizes.low-in, Sizes.high-in, Sizes.frame-in, Fits.query-in, Ends.range-is}
use Rattle.candidate_met.specs.Parts.{part_range}
use Rattle.candidate_spans.specs.Held.{PartsHeld, low_ends, high_ends, EndsReady, RangesReady, RangesHeld}
use Rattle.candidate_spans.proofs.Held.{held_same}

-- the part of a query that part i is
part-inside : (m w i : ℕ) → i < m / w → i * w + w ≤ m
part-inside m w i h = let k : suc i * w ≤ m / w * w = mul-le-mul_right w h in omega (arith, div-mul-le_self m w)

module _ {kind : Kind} {q : List ℤ} {l : Limits} {w : ℕ} {first last : List ℕ} (r : RangesReady kind q l w first last) {curve low high : List ℤ} {values spread : ℕ} (e : Ready kind q l.band curve low high values spread) where
  abbrev m : ℕ
  m = length q

  pub query-ready : QueryIn m w l values spread
  query-ready = query-in r.values r.some r.few r.limits e

  module _ {f : Frame} (is : f ≡ frame_of kind spread (pos values -ℤ pos (10000 * m)) m l w) where
    pub ends-ready : EndsReady f low high w (m / w) first last
    ends-ready = record {
      frame = rw is (frame-in query-ready kind);
      low-in = low-in e.curve-is.inside e.envelopes;
      high-in = high-in e.curve-is.inside e.envelopes;
      window = r.limits.window;
      most = omega (arith, div-le_self m w, r.few);
      low-long = omega (arith, div-mul-le_self m w, e.envelopes.below.long);
      high-long = omega (arith, div-mul-le_self m w, e.envelopes.above.long);
      first-room = r.first-room;
      last-room = r.last-room;
    }

    same : (i : ℕ) → i < m / w → part_range f low high w i ≡ range_of kind (at q) m l w i
    same i h = rw is (range-is l w i r.values e (part-inside m w i h))

    pub ranges-held : {first' last' : List ℕ} → PartsHeld (low_ends (part_range f low high w)) (high_ends (part_range f low high w)) 0 (m / w) first' last' → length first' ≡ length first → length last' ≡ length last
        → RangesHeld kind q l w first last first' last'
    ranges-held h a b = record { held = held_same same h; first-long = a; last-long = b }
