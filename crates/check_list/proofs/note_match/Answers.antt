-- `note_match`, by what the test says.
use Rattle.check_list.proofs.{Found.no-entries, Found.one_entry, Listed.notes-none}
use Rattle.check_list.proofs.note_match.Goals as goal

pub returns-in-None : goal.returns-in-None
returns-in-None c = rw (no-entries c.args.j c.in-None.is) (notes-none _ c.args.k _ _)

pub returns-in-Some : goal.returns-in-Some
returns-in-Some c = rw (one_entry c.args.j c.in-Some.is) c.note_entry.ensures
