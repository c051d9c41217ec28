-- `step_turn`. Every word has a byte.
use Rattle.text_lines.proofs as own
use own.Step.{word-long}
use Rattle.text_lines.proofs.step_turn.Goals as goal

pub arrive-requires : goal.arrive-requires
arrive-requires c = word-long _
