-- The scratch count by the stretches of runs that parts meet: a part counts at an offset where all parts before it do and its window stands in a run of its stretch, or is at or past the index's count (`leading_by`, `CountedBy`). Where each stretch has the runs of the rows that the part's range meets, that is the count of leading parts.
use Rattle.std.specs.Prelude.{ℕ, zero, suc, ◌+◌, ◌-◌, ◌*◌, ◌<◌, ◌≤◌, leb, ltb, length, get_or, take, drop, Bool, cond, ◌||◌, List, ◌≡◌}
use Rattle.meaning_numbers.specs.Place.{any}
use Rattle.meaning_rows.specs.Index.{entries, in_run}
use Rattle.candidate_counts.specs.Raise.{bump}

-- how many of the first i parts lead at offset j, of a test for each part and offset
unfoldable pub leading_by : (ℕ → ℕ → Bool) → ℕ → ℕ → ℕ
leading_by hit zero j = 0
leading_by hit (suc i) j = bump (hit i j) i (leading_by hit i j)

-- the scratch count after i parts
pub record CountedBy (hit : ℕ → ℕ → Bool) (offsets i : ℕ) (scratch : List ℕ) : Type 0 where
  pub at : (j : ℕ) → get_or scratch j 0 ≡ cond (ltb j offsets) (leading_by hit i j) 0

-- the window of offset j at part i is at or past the index's count, or stands in a run of the part's stretch
abbrev pub stretch_hit : List ℕ → List ℕ → List ℕ → List ℕ → ℕ → ℕ → ℕ → ℕ → Bool
stretch_hit left right first last windows w i j = leb windows (j + i * w) || any (in_run (j + i * w)) (take (get_or last i 0 - get_or first i 0) (drop (get_or first i 0) (entries left right)))

-- what raising by all stretches asks for
pub record StretchesReady (left right first last : List ℕ) (w parts offsets : ℕ) (scratch : List ℕ) : Type 0 where
  pub most : parts ≤ 1024
  pub window : w ≤ 256
  pub first-room : parts ≤ length first
  pub last-room : parts ≤ length last
  pub inside-left : (i : ℕ) → i < parts → get_or last i 0 ≤ length left
  pub inside-right : (i : ℕ) → i < parts → get_or last i 0 ≤ length right
  pub room : offsets ≤ length scratch
  pub zeros : (j : ℕ) → get_or scratch j 0 ≡ 0
