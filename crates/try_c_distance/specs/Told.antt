-- What each function for C tells and leaves, by the meanings: for each, what is asked of its input, the answer, what it does then, and what is kept otherwise.
use Rattle.std.specs.Prelude.{ℕ, ◌<◌, ℤ, length, Bool, true, false, List, ◌≡◌}
use Rattle.meaning_numbers.specs.Sum.{Σℕ}
use Rattle.meaning_curves.specs.{Curve.at, Curve.stretch, Curve.window_count, Curve.spread, Straight.straight, Table.warped}
use Rattle.meaning_curves.proofs.Values.{AllIn}
use Rattle.numbers.specs.Within.{Within}
use Rattle.distance_normal.specs.Stretch.{Normalised}
use Rattle.distance_bound.proofs.Excess.{apart}
use Rattle.distance_envelope.specs.Envelope.{Envelopes}
use Rattle.try_c_distance.specs.{Fits.Fits, Outcome.Written, Outcome.Outcome}

-- how many stretches of m values s has
abbrev pub stretches : List ℤ → ℕ → ℕ
stretches s m = window_count (length s) m

-- ---- distances

-- the straight distance of q from stretch j, or some number above the limit
abbrev pub StraightAt : (s q : List ℤ) (limit : ℕ) → ℕ → ℕ → Type 0
StraightAt s q limit j x = Within (straight (stretch s j) (at q) (length q)) limit x

abbrev pub StraightTold : (s q : List ℤ) (limit : ℕ) (out : List ℕ) (r : ℕ) (out' : List ℕ) → Type 0
StraightTold s q limit out r out' =
    Outcome (Fits s (length q) (length out) × AllIn q) (stretches s (length q)) 0 r
    (Written 0 (StraightAt s q limit) (stretches s (length q)) out out')
    (out' ≡ out)

-- the envelope bound of stretch j, likewise
abbrev pub BoundAt : (s low high : List ℤ) (limit : ℕ) → ℕ → ℕ → Type 0
BoundAt s low high limit j x = Within (Σℕ (length low) (apart (stretch s j) (at low) (at high))) limit x

abbrev pub BoundTold : (s low high : List ℤ) (limit : ℕ) (out : List ℕ) (r : ℕ) (out' : List ℕ) → Type 0
BoundTold s low high limit out r out' =
    Outcome ((length high ≡ length low) × Fits s (length low) (length out) × AllIn low × AllIn high) (stretches s (length low)) 0 r
    (Written 0 (BoundAt s low high limit) (stretches s (length low)) out out')
    (out' ≡ out)

-- the warped distance of q from stretch j, likewise
abbrev pub WarpedAt : (s q : List ℤ) (b limit : ℕ) → ℕ → ℕ → Type 0
WarpedAt s q b limit j x = Within (warped (stretch s j) (at q) b (length q)) limit x

-- the envelopes of the query are left beside the distances
abbrev pub WarpedTold : (s q : List ℤ) (b limit : ℕ) (low high : List ℤ) (out : List ℕ) (r : ℕ) (low' high' : List ℤ) (out' : List ℕ) → Type 0
WarpedTold s q b limit low high out r low' high' out' =
    Outcome ((length low ≡ length q) × (length high ≡ length q) × Fits s (length q) (length out) × AllIn q) (stretches s (length q)) 0 r
    (Envelopes q (length q) b low' high' × Written 0 (WarpedAt s q b limit) (stretches s (length q)) out out')
    ((low' ≡ low) × (high' ≡ high) × (out' ≡ out))

abbrev pub EnvelopesTold : (q : List ℤ) (b : ℕ) (low high : List ℤ) (r : Bool) (low' high' : List ℤ) → Type 0
EnvelopesTold q b low high r low' high' =
    Outcome ((length low ≡ length q) × (length high ≡ length q) × AllIn q) true false r
    (Envelopes q (length q) b low' high')
    ((low' ≡ low) × (high' ≡ high))

-- ---- spreads and normalised values

-- room after stretch j: its normalised values, or as it was where it is flat
pub record NormalRoom (s : List ℤ) (m j : ℕ) (old new : List ℤ) : Type 0 where
  pub made : 0 < spread (stretch s j) m → Normalised (stretch s j) m new
  pub same : spread (stretch s j) m ≡ 0 → new ≡ old

-- room after the first n stretches: the normalised values of the last that is not flat, or as it was where all are
pub record LastNormal (s : List ℤ) (m n : ℕ) (old new : List ℤ) : Type 0 where
  pub last : (j : ℕ) → j < n → 0 < spread (stretch s j) m → ((k : ℕ) → j < k → k < n → spread (stretch s k) m ≡ 0) → Normalised (stretch s j) m new
  pub none : ((j : ℕ) → j < n → spread (stretch s j) m ≡ 0) → new ≡ old

abbrev pub SpreadAt : (s : List ℤ) (m : ℕ) → ℕ → ℕ → Type 0
SpreadAt s m j x = x ≡ spread (stretch s j) m

abbrev pub NormalTold : (s room : List ℤ) (out : List ℕ) (r : ℕ) (room' : List ℤ) (out' : List ℕ) → Type 0
NormalTold s room out r room' out' =
    Outcome (Fits s (length room) (length out)) (stretches s (length room)) 0 r
    (LastNormal s (length room) (stretches s (length room)) room room' × Written 0 (SpreadAt s (length room)) (stretches s (length room)) out out')
    ((room' ≡ room) × (out' ≡ out))
