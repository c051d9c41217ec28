-- The end of the input: what refuses is printed, and where nothing does, what was read is what the program was asked, and what it prints then is what document 01 says.
use Rattle.std.specs.Prelude.{◌≤◌, ℤ, length, List}
use Rattle.program_input.specs.declared.Input.{Input}
use Rattle.program_answer.specs.Finish.{Reached}

-- some text has been read, into buffers for all values that the program takes
pub record InputHeld (r : Input) (numbers series query : List ℤ) : Type 0 where
  pub reached : Reached r numbers series query
  pub numbers-long : 8 ≤ length numbers
  pub series-long : 4096 ≤ length series
  pub query-long : 1024 ≤ length query
