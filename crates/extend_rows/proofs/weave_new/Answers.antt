-- `weave_new`: the row numbers of the new windows are listed, old rows and new ones woven, and the records past them cleared.
use Rattle.extend_rows.proofs.Shell.{lists, weaves, woven-as}
use Rattle.extend_rows.proofs.weave_new.Goals as goal

pub list_numbers-k-requires : goal.list_numbers-k-requires
list_numbers-k-requires g c = lists c.requires

pub weave_rows-n-requires : goal.weave_rows-n-requires
weave_rows-n-requires g c = weaves c.requires c.list_numbers-k.ensures

pub returns : goal.returns
returns g c = woven-as c.requires c.list_numbers-k.ensures c.weave_rows-n.ensures c.clear_rows.ensures
