-- `envelope` (`passes-edge`).
use Rattle.distance_envelope.proofs as own
use own.Pass.{passes-edge}
use Rattle.distance_envelope.proofs.envelope.Goals as goal

pub returns : goal.returns
returns c =
    passes-edge (rw c.copy_values.ensures at c.reach_ahead.ensures) c.reach_back.ensures
