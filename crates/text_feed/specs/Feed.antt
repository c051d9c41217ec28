-- What a piece of the text does: where what was kept holds what had been said, it comes to what the automaton comes to.
use Rattle.std.specs.Prelude.{ℕ, ◌+◌, ◌<◌, ◌≤◌, ◌^◌, ℤ, List, Result, Ok, Err, ◌≡◌}
use Rattle.meaning_text.proofs.Automaton.{Fed, going, failed, feed}
use Rattle.text_lines.specs.{Step.GoodState, Follow.Said, Follow.Reading, Follow.at, Follow.step}
use Rattle.text_feed.specs.{declared.Progress.Progress, Keep.Holds}

-- n bytes more fit
pub record Ready (p : Progress) (n : ℕ) : Type 0 where
  pub good : GoodState p.state
  pub series : p.series.count ≤ p.at
  pub query : p.query.count ≤ p.at
  pub room : p.at + n < 2 ^ 63

-- for the next piece
abbrev pub GoodFeeding : ℕ → Result Progress ℕ → Type 0
GoodFeeding end (Ok p) = (GoodState p.state) × (p.series.count ≤ p.at) × (p.query.count ≤ p.at) × (p.at ≡ end)
GoodFeeding end (Err n) = Unit {0}

-- the answer shows where the automaton stands
abbrev pub Shows : (kept asked : List ℤ) → Result Progress ℕ → Fed Reading → List ℤ → List ℤ → List ℤ → Type 0
Shows kept asked (Ok p) (going x n) numbers series query = (p.state ≡ x.state) × (p.at ≡ n) × Holds kept asked x.said numbers p.series p.query series query
Shows kept asked (Ok p) (failed n) numbers series query = ⊥
Shows kept asked (Err m) (going x n) numbers series query = ⊥
Shows kept asked (Err m) (failed n) numbers series query = m ≡ n

unfoldable pub Comes : Progress → Said → List ℤ → List ℤ → List ℕ → List ℤ → List ℤ → List ℤ → Result Progress ℕ → List ℤ → List ℤ → List ℤ → Type 0
Comes p g kept asked piece numbers series query r numbers' series' query' =
    Holds kept asked g numbers p.series p.query series query → Shows kept asked r (feed step (going (at p.state g) p.at) piece) numbers' series' query'
