-- Where the program's input stands after some pieces (`Stands`), and what a piece more does to it.
use Rattle.std.specs.Prelude.{ℕ, ◌+◌, ◌≤◌, ℤ, length, List, ◌++◌, ◌≡◌, Ok, Err}
use Rattle.meaning_text.specs.Read.{line_of}
use Rattle.meaning_text.proofs.Automaton.{Fed, going, feed}
use Rattle.text_lines.specs.{declared.State.State, declared.Word.Word, Follow.Reading, Follow.step, Follow.program_start}
use Rattle.text_feed.specs.{Feed.Ready, Feed.Shows, Whole.no_values}
use Rattle.program_input.specs.declared.Input.{Input}

-- what the automaton comes to
abbrev pub fed : List ℕ → Fed Reading
fed t = feed step (going program_start 0) t

-- after the text t, where `kept` and `asked` were the buffers for values at first
unfoldable pub Stands : List ℤ → List ℤ → List ℕ → Input → List ℤ → List ℤ → List ℤ → Type 0
Stands kept asked t (Input.Going p line) numbers series query = Shows kept asked (Ok p) (fed t) numbers series query × (line ≡ line_of t (length t))
Stands kept asked t (Input.Failed line) numbers series query = (m : ℕ) × (Shows kept asked (Err m) (fed t) numbers series query × (line ≡ line_of t m))

-- n bytes more can be read
unfoldable pub Open : Input → ℕ → Type 0
Open (Input.Going p line) n = Ready p n × (1 ≤ line) × (line ≤ p.at + 1)
Open (Input.Failed line) n = Unit {0}

-- nothing has been read
abbrev pub start : Input
start = Input.Going (record { state = State.In Word.Window 0; at = 0; series = no_values; query = no_values }) 1

-- ---- a piece more

-- what a piece does to the input
pub record ReadOn (piece : List ℕ) (r : Input) (numbers series query : List ℤ) (x : Input) (numbers' series' query' : List ℤ) : Type 0 where
  pub opens : (n : ℕ) → Open r (length piece + n) → Open x n
  pub stands : (kept asked : List ℤ) (t : List ℕ) → Stands kept asked t r numbers series query → Stands kept asked (t ++ piece) x numbers' series' query'
