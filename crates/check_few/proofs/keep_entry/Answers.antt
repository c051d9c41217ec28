-- `keep_entry` (`keeps-put`, `keeps-none`).
use Rattle.meaning_numbers.proofs.Prelude.{rules}
use Rattle.check_few.proofs as own
use own.Kept.{keeps-put, keeps-none}
use Rattle.check_few.proofs.keep_entry.Goals as goal

pub returns-then-p-k : goal.returns-then-p-k
returns-then-p-k c =
    keeps-put c.min-held.ensures c.min-top.ensures c.requires.1 c.requires.2 (search rules) c.place_of-p.ensures c.insert_entry.ensures.0 c.insert_entry.ensures.1

pub returns-else-p-k : goal.returns-else-p-k
returns-else-p-k c =
    keeps-none c.min-held.ensures c.requires.1 c.requires.2 c.if-p-k.false c.place_of-p.ensures
