-- `next_line`. A reader of the text is made, and handed on.
use Rattle.text_rows.proofs.Onward.{ready_on, line_on}
use Rattle.text_rows.proofs.next_line.Goals as goal

pub next_row-requires : goal.next_row-requires
next_row-requires c = ready_on c.args.text c.args.p c.reader_of.result c.reader_of.ensures c.requires

pub returns : goal.returns
returns c = line_on c.args.text c.args.p c.reader_of.result c.reader_of.ensures c.next_row.ensures
