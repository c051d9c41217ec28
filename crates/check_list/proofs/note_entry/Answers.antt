-- `note_entry`, by what is handed out (`notes-kept`).
use Rattle.meaning_numbers.proofs.Prelude.{ap, arith}
use Rattle.meaning_filter.specs.Closest.{fewest}
use Rattle.check_list.proofs.Listed.{notes-kept}
use Rattle.check_list.proofs.note_entry.Goals as goal

pub keep_entry-requires : goal.keep_entry-requires
unfolding fewest
keep_entry-requires c =
    let few = ap fewest c.in-Closest.is in
    (c.requires.0, omega (arith, few, c.requires.1), omega (arith, few, c.requires.1))

pub returns-in-All : goal.returns-in-All
returns-in-All c = rw c.in-All.is c.put_entry.ensures

pub returns-in-Closest : goal.returns-in-Closest
unfolding fewest
returns-in-Closest c = rw c.in-Closest.is (notes-kept (omega (arith, ap fewest c.in-Closest.is, c.requires.1)) c.keep_entry.ensures)
