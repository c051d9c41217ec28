-- `check_runs`: the list is filled (`list-filled`).
use Rattle.check_list.proofs.{Found.found-upward, Listed.list-filled}
use Rattle.check_list.proofs.check_runs.Goals as goal

pub returns : goal.returns
returns c = list-filled (found-upward _ _ _ _ c.requires.runs_lent.apart) c.check_each-n.ensures c.list_end-end.ensures c.clear.ensures c.clear-2.ensures
