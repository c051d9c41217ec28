-- `step_end`. Every word has a byte.
use Rattle.text_index.proofs as own
use own.Step.{word-long}
use Rattle.text_index.proofs.step_end.Goals as goal

pub arrive-requires : goal.arrive-requires
arrive-requires c = word-long _
