-- `put_entry` (`notes-put`, `notes-full`).
use Rattle.meaning_numbers.proofs.Prelude.{arith}
use Rattle.check_list.proofs.Listed.{notes-put, notes-full}
use Rattle.check_list.proofs.put_entry.Goals as goal

pub returns-then-k-distances : goal.returns-then-k-distances
returns-then-k-distances c = notes-put c.args.k c.args.j _ _ _ c.if-k-offsets.true c.if-k-distances.true

pub returns-else-k-offsets : goal.returns-else-k-offsets
returns-else-k-offsets c = notes-full c.args.k c.args.j _ _ _ (omega arith)
