-- `clear_runs` meets its contract.
use borrow.Author.Rules.{rules}
use Rattle.clear.proofs.Cleared.{cleared-zero}
use Rattle.build_lay.proofs.clear_runs.Goals as goal

pub returns : goal.returns
returns c = search (rules, cleared-zero)
