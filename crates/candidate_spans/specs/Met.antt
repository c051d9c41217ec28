-- Each entry of the candidate buffer replaced by the stretch of runs that its range meets (`AllMet`). A turn of the loop is `meeting-next`, over plain variables.
use Rattle.std.specs.Prelude.{ℕ, ◌<◌, ◌≤◌, ℤ, length, List, ◌≡◌}
use Rattle.meaning_rows.specs.declared.Row.{Row}
use Rattle.candidate_ranges.specs.declared.Range.{Range}
use Rattle.candidate_met.specs.{Met.Climbs, Met.clamp_of, Met.met_span, declared.Span.Span, Stored.EndsAt, Stored.held_range}
use Rattle.candidate_spans.specs.Held.{PartsHeld}

-- the stretch that a range meets
abbrev pub span_of : List Row → Range → Span
span_of rows y = met_span rows (clamp_of y.low) (clamp_of y.high)

-- that of entry i
abbrev pub span_at : List Row → List ℕ → List ℕ → ℕ → Span
span_at rows first last i = span_of rows (held_range first last i)

-- rows in order, stretches that fit, and an entry for each part
pub record MeetReady (rows : List Row) (parts : ℕ) (first last : List ℕ) : Type 0 where
  pub climbs : Climbs rows (length rows)
  pub few : (low high : ℤ) → ((met_span rows low high).from ≤ 1048576) × ((met_span rows low high).to ≤ 1048576)
  pub ends : (i : ℕ) → i < parts → EndsAt first last i

pub record AllMet (rows : List Row) (parts : ℕ) (first last first' last' : List ℕ) : Type 0 where
  pub held : PartsHeld (λ i. (span_at rows first last i).from) (λ i. (span_at rows first last i).to) 0 parts first' last'
  pub first-long : length first' ≡ length first
  pub last-long : length last' ≡ length last
