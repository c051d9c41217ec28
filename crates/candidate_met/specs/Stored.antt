-- A range as two columns hold it: its ends clamped and raised to natural numbers.
use Rattle.std.specs.Prelude.{ℕ, ◌<◌, ◌≤◌, ℤ, pos, nat_abs, ◌+ℤ◌, ◌-ℤ◌, length, get_or, List}
use Rattle.candidate_ranges.specs.declared.Range.{Range}
use Rattle.candidate_met.specs.Met.{clamp_of}

-- an end of a range, clamped and raised to a natural number
unfoldable pub raised_end : ℤ → ℕ
raised_end z = nat_abs (clamp_of z +ℤ pos 4000001)

-- entry i holds the raised ends of a range
pub record EndsAt (first last : List ℕ) (i : ℕ) : Type 0 where
  pub in-first : i < length first
  pub in-last : i < length last
  pub first-most : get_or first i 0 ≤ 8000002
  pub last-most : get_or last i 0 ≤ 8000002

abbrev pub held_range : List ℕ → List ℕ → ℕ → Range
held_range first last i = record { low = pos (get_or first i 0) -ℤ pos 4000001; high = pos (get_or last i 0) -ℤ pos 4000001 }
