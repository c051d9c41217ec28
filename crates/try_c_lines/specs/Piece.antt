-- A text of which some bytes have been read (`Stands`), and one more piece (`Fed`).
use Rattle.std.specs.declared.result.Result.{Result}
use Rattle.std.specs.Prelude.{Ok, Err}
use Rattle.std.specs.Prelude.{ℕ, ◌-◌, ◌≤◌, ℤ, length, take, drop, Bool, true, false, List, ◌≡◌}
use Rattle.text_lines.specs.{Step.GoodState, Follow.Said, Follow.Reading, Follow.program_start, Follow.series_start}
use Rattle.text_feed.specs.{declared.Progress.Progress, Feed.GoodFeeding, Feed.Comes as Takes, Whole.no_values}

-- where the program's lines begin, and a series line
abbrev pub start_of : Bool → Reading
start_of true = program_start
start_of false = series_start

-- nothing has been read
abbrev pub begun : Bool → Progress
begun program = record { state = (start_of program).state; at = 0; series = no_values; query = no_values }

-- p stands in a text of n bytes, and no count is above the bytes read
pub record Stands (n : ℕ) (p : Progress) : Type 0 where
  pub good : GoodState p.state
  pub series : p.series.count ≤ p.at
  pub query : p.query.count ≤ p.at
  pub inside : p.at ≤ n

-- the bytes to `end` were read, and the buffers have their lengths
pub record Fed (text : List ℕ) (end : ℕ) (p : Progress) (r : Result Progress ℕ) (numbers series query numbers' series' query' : List ℤ) : Type 0 where
  pub good : GoodFeeding end r
  pub alone : length numbers' ≡ length numbers
  pub first : length series' ≡ length series
  pub second : length query' ≡ length query
  pub comes : (g : Said) (kept asked : List ℤ) → Takes p g kept asked (take (end - p.at) (drop p.at text)) numbers series query r numbers' series' query'
