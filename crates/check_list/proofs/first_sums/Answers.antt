-- `first_sums`: a raw query asks for no sums (`raw-sums`).
use Rattle.check_list.proofs.Found.{raw-sums}
use Rattle.check_list.proofs.first_sums.Goals as goal

pub returns-in-Raw : goal.returns-in-Raw
returns-in-Raw c = raw-sums c.in-Raw.is
