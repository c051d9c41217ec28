-- What the candidate buffer holds while the parts of a query are asked: two numbers of each part as an entry (`PartsHeld`). First they are the ends of the part's range, clamped and raised, then the stretch of runs that the range meets.
use Rattle.std.specs.Prelude.{ℕ, ◌*◌, ◌/◌, ◌<◌, ◌≤◌, ℤ, length, get_or, List, ◌≡◌}
use Rattle.meaning_curves.specs.Curve.{spread}
use Rattle.meaning_curves.proofs.Values.{AllIn}
use Rattle.meaning_filter.specs.{declared.Kind.Kind, declared.Limits.Limits, Range.range_of}
use Rattle.candidate_ranges.specs.{declared.Frame.Frame, Frame.FrameIn}
use Rattle.candidate_ranges.proofs.Fits.{LimitsIn}
use Rattle.candidate_met.specs.Stored.{raised_end}
pub use Rattle.meaning_curves.specs.Curve.{at}

-- the ends of each part's range
abbrev pub low_ends : (ℕ → ℤ × ℤ) → ℕ → ℕ
low_ends range i = raised_end (range i).0

abbrev pub high_ends : (ℕ → ℤ × ℤ) → ℕ → ℕ
high_ends range i = raised_end (range i).1

-- the entries from k up to n of two columns are those of f and g
pub record PartsHeld (f g : ℕ → ℕ) (k n : ℕ) (first last : List ℕ) : Type 0 where
  pub first-at : (i : ℕ) → k ≤ i → i < n → get_or first i 0 ≡ f i
  pub last-at : (i : ℕ) → k ≤ i → i < n → get_or last i 0 ≡ g i

-- one entry is stored
pub record Stored (i a b : ℕ) (first last first' last' : List ℕ) : Type 0 where
  pub first-long : length first' ≡ length first
  pub last-long : length last' ≡ length last
  pub first-here : get_or first' i 0 ≡ a
  pub last-here : get_or last' i 0 ≡ b
  pub first_else : (j : ℕ) → (j ≡ i → ⊥) → get_or first' j 0 ≡ get_or first j 0
  pub last_else : (j : ℕ) → (j ≡ i → ⊥) → get_or last' j 0 ≡ get_or last j 0

-- what the ends of all parts ask for
pub record EndsReady (f : Frame) (low high : List ℤ) (w parts : ℕ) (first last : List ℕ) : Type 0 where
  pub frame : FrameIn f
  pub low-in : AllIn low
  pub high-in : AllIn high
  pub window : w ≤ 256
  pub most : parts ≤ 1024
  pub low-long : parts * w ≤ length low
  pub high-long : parts * w ≤ length high
  pub first-room : parts ≤ length first
  pub last-room : parts ≤ length last

-- what the ranges of a query's parts ask for
pub record RangesReady (kind : Kind) (q : List ℤ) (l : Limits) (w : ℕ) (first last : List ℕ) : Type 0 where
  pub values : AllIn q
  pub some : 1 ≤ length q
  pub few : length q ≤ 1024
  pub not-flat : kind ≡ Kind.Normal → 0 < spread (at q) (length q)
  pub window : 1 ≤ w
  pub limits : LimitsIn w l
  pub first-room : length q / w ≤ length first
  pub last-room : length q / w ≤ length last

-- the ranges of a query's parts, in columns as long as before
pub record RangesHeld (kind : Kind) (q : List ℤ) (l : Limits) (w : ℕ) (first last first' last' : List ℕ) : Type 0 where
  pub held : PartsHeld (low_ends (range_of kind (at q) (length q) l w)) (high_ends (range_of kind (at q) (length q) l w)) 0 (length q / w) first' last'
  pub first-long : length first' ≡ length first
  pub last-long : length last' ≡ length last
