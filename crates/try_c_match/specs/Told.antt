-- What the functions for C tell, and what they leave in lent buffers.
use Rattle.std.specs.Prelude.{◌≡◌, ℕ, zero, suc, ◌+◌, ◌%◌, ◌^◌, ◌<◌, ◌≤◌, List, length, ℤ, pos}
use Rattle.std.specs.declared.option.Option.{Option}
use Rattle.std.specs.Prelude.{None, Some}
use Rattle.meaning_curves.specs.{Limits.longest_window, Limits.greatest_scale, Curve.at, Curve.stretch, Curve.window_sum, Curve.spread}
use Rattle.meaning_curves.proofs.Values.{AllIn}
use Rattle.meaning_rows.specs.Range.{row_number}
use Rattle.meaning_filter.specs.{declared.Kind.Kind, declared.Kind.TheVariants.Raw, declared.Kind.TheVariants.Normal, declared.Limits.Limits}
use Rattle.distance_query.specs.Ready.{Envelopes, IsCurve}
use Rattle.distance_match.specs.Matched.{matched}
use Rattle.try_c_distance.specs.{Fits.Fits, Outcome.Written, Outcome.Outcome, Told.stretches}

-- a place, or n where there is none
abbrev pub place_or : ℕ → Option ℕ → ℕ
place_or n None = n
place_or n (Some p) = p

-- a kind by its number
abbrev pub kind_of : ℕ → Kind
kind_of zero = Raw
kind_of (suc n) = Normal

-- a query of this kind can be prepared: a normalised one is not flat
abbrev pub CanPrepare : Kind → List ℤ → Type 0
CanPrepare kind q = kind ≡ Normal → 0 < spread (at q) (length q)

-- the distance and 1, or 0 for no match
abbrev pub told_match : Option ℕ → ℕ
told_match (Some d) = d + 1
told_match None = 0

-- the same in 64 bits
abbrev pub wrapped : Option ℕ → ℕ
wrapped (Some d) = (d + 1) % 2 ^ 64
wrapped None = 0

-- whether stretch j matches q, and its distance
abbrev pub MatchAt : Kind → (s q : List ℤ) → Limits → ℕ → ℕ → Type 0
MatchAt kind s q l j x = x ≡ told_match (matched kind (stretch s j) (at q) (length q) l)

-- what is lent to a match test
pub record MatchBuffers : Type 0 where
  pub curve : List ℤ
  pub low : List ℤ
  pub high : List ℤ
  pub room : List ℤ
  pub row : List ℕ
  pub out : List ℕ

pub record MatchesAsked (kind : Kind) (s q : List ℤ) (scale : ℕ) (b : MatchBuffers) : Type 0 where
  pub curves : length b.curve ≡ length q
  pub lows : length b.low ≡ length q
  pub highs : length b.high ≡ length q
  pub rooms : length b.room ≡ length q
  pub rows : length q < length b.row
  pub scales : scale ≤ greatest_scale
  pub fits : Fits s (length q) (length b.out)
  pub values : AllIn q
  pub shape : CanPrepare kind q

-- of room and row nothing is said: what they hold is free
pub record MatchesDone (kind : Kind) (s q : List ℤ) (l : Limits) (b b' : MatchBuffers) : Type 0 where
  pub curve : IsCurve kind q b'.curve
  pub envelopes : Envelopes b'.curve (length q) l.band b'.low b'.high
  pub each : Written 0 (MatchAt kind s q l) (stretches s (length q)) b.out b'.out

abbrev pub MatchesTold : Kind → (s q : List ℤ) → Limits → MatchBuffers → ℕ → MatchBuffers → Type 0
MatchesTold kind s q l b r b' = Outcome (MatchesAsked kind s q l.scale b) (stretches s (length q)) 0 r (MatchesDone kind s q l b b') (b' ≡ b)

abbrev pub SumAt : List ℤ → ℕ → ℕ → ℤ → Type 0
SumAt s w j x = x ≡ window_sum s w j

-- the row, of the width d, that holds the sum of window j
abbrev pub RowAt : List ℤ → ℕ → ℕ → ℕ → ℤ → Type 0
RowAt s w d j x = x ≡ row_number d (window_sum s w j)

abbrev pub WindowsTold : (s : List ℤ) (w d : ℕ) (sums rows : List ℤ) (r : ℕ) (sums' rows' : List ℤ) → Type 0
WindowsTold s w d sums rows r sums' rows' =
    Outcome ((w ≤ longest_window) × (length rows ≡ length sums) × Fits s w (length sums)) (stretches s w) 0 r
    (Written (pos 0) (SumAt s w) (stretches s w) sums sums' × Written (pos 0) (RowAt s w d) (stretches s w) rows rows')
    ((sums' ≡ sums) × (rows' ≡ rows))
