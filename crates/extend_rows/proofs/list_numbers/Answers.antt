-- `list_numbers`: there are as many flags as are asked for.
use Rattle.meaning_numbers.proofs.Prelude.{ℕ, ◌≤◌, replicate, length-replicate, length, arith}
use Rattle.extend_rows.proofs.list_numbers.Goals as goal

-- of n flags there are n
flags : (n x : ℕ) → 1 ≤ n → n ≤ 1000000 → (1 ≤ length (replicate n x)) × (length (replicate n x) ≤ 1000000)
flags n x some most = rw (length-replicate n x) (some, most)

pub list_new-requires-clause-in_bounds : goal.list_new-requires-clause-in_bounds
list_new-requires-clause-in_bounds c = flags 262144 0 (omega arith) (omega arith)
