-- What joining the first new run asks and leaves.
use Rattle.std.specs.Prelude.{ℕ, ◌+◌, ◌-◌, ◌*◌, ◌≤◌, ℤ, Bool, List, ◌≡◌}
use Rattle.meaning_rows.specs.declared.Row.{Row}
use Rattle.sums_slide.specs.{declared.Window.Window, Levels.Lent, Levels.windows_of, Ends.raised_end}
use Rattle.build_fill.specs.Turn.{At, Small}
use Rattle.extend_new.specs.Join.{Joinable}
pub use Rattle.extend_new.specs.Join.{JoinedRun}

-- where the last old run stands in the row's new part
abbrev pub spot_of : Row → Row → ℕ
spot_of q r = q.first + r.runs - 1

-- what joining asks, at the first new window
pub record JoinAsked (s : List ℤ) (w e old : ℕ) (joins : Bool) (q r : Row) (size : ℕ) : Type 0 where
  pub lent : Lent s w e
  pub below : old ≤ windows_of s w
  pub small : Small q
  pub begins : q.first ≤ size
  pub can : (p : Window) → At s w e p → p.offset ≡ old → Joinable s w e p joins (raised_end (10000 * w + e) q.low) (raised_end (10000 * w + e) q.up) (spot_of q r) size

-- the first new run is joined
pub record JoinedAt (s : List ℤ) (w e old : ℕ) (joins : Bool) (q r : Row) (before : List ℕ) (t : Window) (after : List ℕ) : Type 0 where
  pub place : Window
  pub start : At s w e place
  pub begins : place.offset ≡ old
  pub run : JoinedRun s w e place joins (raised_end (10000 * w + e) q.low) (raised_end (10000 * w + e) q.up) (spot_of q r) before t after
