-- `take_block`: a block of which none stands is passed over (`took-none`).
use Rattle.meaning_numbers.proofs.Prelude.{arith}
use Rattle.candidate_counts.proofs as own
use own.Take.{took-none}
use Rattle.candidate_counts.proofs.take_block.Goals as goal

pub returns-then-count_at-eq0 : goal.returns-then-count_at-eq0
returns-then-count_at-eq0 c =
    took-none _ _ 64 _ _ _ (omega arith) (omega arith)
