-- `list_matches`: the list of a search that is not refused (`list_put`).
use Rattle.meaning_numbers.proofs.Prelude.{ℕ, length-replicate}
use Rattle.program_answer.proofs as own
use own.Print.{list_put}
use Rattle.program_answer.proofs.list_matches.Goals as goal

pub returns : goal.returns
returns c =
    let z = length-replicate {A = ℕ} 4096 0 in
    λ p f. list_put _ _ _ _ _ _ _ _ p c.search-answer.ensures (f _ z z z z z) c.put_found.ensures
