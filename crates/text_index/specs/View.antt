-- What a loop over an index text keeps of what is said: any view of it that a number and a row's end move in the same way comes to the view of what the text says.
use Rattle.std.specs.declared.option.Option.{Option}
use Rattle.std.specs.Prelude.{None, Some}
use Rattle.text_index.specs.declared.State.{State}

-- what is kept at the end of a text
abbrev pub kept_at : {T : Type 0} → State → T → Option T
kept_at (State.In w k) t = None
kept_at (State.At p n) t = None
kept_at (State.Before b) t = None
kept_at State.Done t = Some t
