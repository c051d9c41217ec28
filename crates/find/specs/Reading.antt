-- The input as the program reads it, piece by piece: some text has been read, and n bytes more can be.
use Rattle.std.specs.Prelude.{ℕ, ◌<◌, ◌≤◌, ℤ, length, List, ◌≡◌}
use Rattle.std.specs.declared.ops.ControlFlow.{ControlFlow}
use Rattle.std.specs.declared.ops.ControlFlow.TheVariants.{Continue, Break}
use Rattle.program_input.specs.{declared.Input.Input, Input.Stands, Input.Open, Input.ReadOn}

pub record ReadTo (n : ℕ) (r : Input) (numbers series query : List ℤ) : Type 0 where
  pub kept : List ℤ
  pub asked : List ℤ
  pub text : List ℕ
  pub stands : Stands kept asked text r numbers series query
  pub opened : Open r n
  pub long : length kept ≡ 4096
  pub short : length asked ≡ 1024

-- the piece was read on; there may be more exactly where it has a byte
abbrev pub StepFrom : List ℕ → Input → List ℤ → List ℤ → List ℤ → ControlFlow Input Input → List ℤ → List ℤ → List ℤ → Type 0
StepFrom piece r numbers series query (Continue x) numbers' series' query' = (0 < length piece) × ReadOn piece r numbers series query x numbers' series' query'
StepFrom piece r numbers series query (Break x) numbers' series' query' = (length piece ≡ 0) × ReadOn piece r numbers series query x numbers' series' query'

-- a step by some piece that fits the buffer
pub record Stepped (r : Input) (numbers series query : List ℤ) (s : ControlFlow Input Input) (numbers' series' query' : List ℤ) : Type 0 where
  pub piece : List ℕ
  pub most : length piece ≤ 65536
  pub from : StepFrom piece r numbers series query s numbers' series' query'
